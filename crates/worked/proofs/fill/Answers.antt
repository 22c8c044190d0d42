use Rattle.worked.proofs.Calls.{opened, put_on, put_both, sealed, lost, not_refused}
use Rattle.worked.proofs.fill.Goals as goal

pub returns-in_err-open : goal.returns-in_err-open
returns-in_err-open c =
    let a = opened _ _ _ c.open.ensures.means c.requires in
    not_refused c.open.result c.in_err-open.field-0.0 a.answer c.in_err-open.was

pub returns-in_err-put : goal.returns-in_err-put
returns-in_err-put c =
    let a₁ = opened _ _ _ c.open.ensures.means c.requires in
    let a₂ = put_on _ _ _ c.put.ensures.means a₁.leaves in
    not_refused c.put.result c.in_err-put.field-0.0 a₂.answer c.in_err-put.was

pub returns-in_err-put-2 : goal.returns-in_err-put-2
returns-in_err-put-2 c =
    let a₁ = opened _ _ _ c.open.ensures.means c.requires in
    let a₂ = put_on _ _ _ c.put.ensures.means a₁.leaves in
    let a₃ = put_both _ _ _ c.put-2.ensures.means a₂.leaves in
    not_refused c.put-2.result c.in_err-put-2.field-0.0 a₃.answer c.in_err-put-2.was

pub returns-in_err-seal : goal.returns-in_err-seal
returns-in_err-seal c =
    let a₁ = opened _ _ _ c.open.ensures.means c.requires in
    let a₂ = put_on _ _ _ c.put.ensures.means a₁.leaves in
    let a₃ = put_both _ _ _ c.put-2.ensures.means a₂.leaves in
    let a₄ = sealed _ _ _ c.seal.ensures.means a₃.leaves in
    not_refused c.seal.result c.in_err-seal.field-0.0 a₄.answer c.in_err-seal.was

pub returns : goal.returns
returns c =
    let a₁ = opened _ _ _ c.open.ensures.means c.requires in
    let a₂ = put_on _ _ _ c.put.ensures.means a₁.leaves in
    let a₃ = put_both _ _ _ c.put-2.ensures.means a₂.leaves in
    let a₄ = sealed _ _ _ c.seal.ensures.means a₃.leaves in
    let a₅ = lost _ _ _ c.lose.ensures.means a₄.leaves in
    record { answer = a₅.answer; means = a₅.leaves }
