use Rattle.std.proofs.Common.{◌≡◌, ◌+◌, ◌-◌, ◌*◌, ◌≤◌, length, get_or, take, drop, rules, sym, ◌∙◌, arith, length-take, length-drop}
use Rattle.std.proofs.lemmas.List.{get_or-take, length-take-le}
use Rattle.striping.proofs.Forgetting.{forget_put, forget_skip}
use Rattle.striping.proofs.forget.Goals as goal
use Rattle.striping.proofs.forget.Goals.{then-mark-eq0, else-mark-eq0}

pub loop-i-preserved : goal.loop-i-preserved
loop-i-preserved c =
    let marks = c.args.marks.now in
    let i = c.loop-i.i in
    let at = i * 64 in
    let blocks = c.loop-i.blocks in
    let room : at + 64 ≤ length blocks = omega (arith, c.min-whole.ensures, length-take c.min-whole.result marks) in
    let mark : get_or (take c.min-whole.result marks) i 0 ≡ get_or marks i 0 = get_or-take c.min-whole.result marks i 0 (omega (arith, length-take c.min-whole.result marks)) in
    let size : length (take (at + 64 - at) (drop at blocks)) ≡ 64 = length-take-le (at + 64 - at) (drop at blocks) (simp length-drop (omega arith)) ∙ omega arith in
    elim c.if-mark-eq0.branch [
      | then-mark-eq0 s ↦ search (rules, forget_put, c.loop-i.invariant, size, sym mark ∙ s.if-mark-eq0.true)
      | else-mark-eq0 s ↦ search (rules, forget_skip, c.loop-i.invariant, mark)
    ]

pub returns-clause-gone : goal.returns-clause-gone
returns-clause-gone c = λ i j l room. c.loop-i.invariant.gone i j (omega (arith, c.min-whole.ensures, length-take c.min-whole.result c.args.marks.now))
