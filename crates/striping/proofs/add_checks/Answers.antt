use Rattle.std.proofs.Common.{◌≡◌, ◌+◌, ◌-◌, ◌*◌, ◌≤◌, length, take, drop, ◌∙◌, subst, arith, length-drop}
use Rattle.std.proofs.lemmas.List.{length-take-le}
use Rattle.refusal.proofs.Turning.{turned}
use Rattle.code.specs.Calls.{first}
use Rattle.code.proofs.Parts.{block_here, block_other}
use Rattle.code.proofs.Refusals.{check_accepted}
use Rattle.striping.specs.Stripe.{Stores}
use Rattle.striping.proofs.Blocks.{one_more, laid}
use Rattle.striping.proofs.add_checks.Goals as goal

pub loop-e-preserved : goal.loop-e-preserved
loop-e-preserved g c =
    let code = g.C.Code.coding c.args.code.now in
    let given = c.split_at_mut-given.result.0.now in
    let e = c.loop-e.e in
    let at = e * 64 in
    let was = c.loop-e.checks in
    let check = c.check.new.out in
    let room : at + 64 ≤ length was = omega (arith, c.split_at_mut-given.ensures.back_len, c.sizes-sizes.ensures.k, c.sizes-sizes.ensures.m) in
    let size : length (take (at + 64 - at) (drop at was)) ≡ 64 = length-take-le (at + 64 - at) (drop at was) (simp length-drop (omega arith)) ∙ omega arith in
    let long : length check ≡ 64 = c.check.auto.out ∙ size in
    one_more was _ (λ i. code.whole (first code.k given) (code.k + i)) e (block_other e _ was check (omega arith) long (omega arith))
    (block_here e _ was check (omega arith) long
    ∙ turned _ _ _ _ _ c.check.ensures (check_accepted code e (length given) _ (omega (arith, c.sizes-sizes.ensures.m)) (omega (arith, c.split_at_mut-given.ensures.front_len, c.sizes-sizes.ensures.k)) size))
    c.loop-e.invariant

pub returns : goal.returns
returns g c =
    let code = g.C.Code.coding c.args.code.now in
    let given = c.split_at_mut-given.result.0.now in
    let end : c.loop-e.e ≡ code.m = omega (arith, c.sizes-sizes.ensures.m) in
    laid code (g.C.Code.completes c.args.code.now) given c.loop-e.checks c.args.stripe.now c.split_at_mut-given.result.1.now
    (omega (arith, c.split_at_mut-given.ensures.front_len, c.sizes-sizes.ensures.k)) (omega (arith, c.split_at_mut-given.ensures.back_len, c.sizes-sizes.ensures.k))
    (λ j. (c.type_inv.stripe j).fits) c.split_at_mut-given.ensures.value
    (subst (λ n. Stores n c.loop-e.checks (λ i. code.whole (first code.k given) (code.k + i))) end c.loop-e.invariant)
