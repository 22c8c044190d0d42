use Rattle.std.proofs.Common.{◌≡◌, ◌+◌, ◌≤◌, length, sym, refl, ◌∙◌, subst, arith}
use Rattle.block.specs.Count.{count}
use Rattle.code.specs.Calls.{marks_held}
use Rattle.code.proofs.Marks.{mark_held, mark_missing}
use Rattle.code.proofs.Agreement.{rebuilt}
use Rattle.striping.specs.Stripe.{Stores, Leaves}
use Rattle.striping.proofs.Blocks.{one_more, still_left}
use Rattle.striping.proofs.Losses.restore_all.Goals as goal
use Rattle.striping.proofs.Losses.restore_all.Goals.{then-mark-eq0, else-mark-eq0}

pub loop-i-preserved : goal.loop-i-preserved
loop-i-preserved g c =
    let self = c.args.self.now in
    let code = self.code.now in
    let coding = g.C.Code.coding code in
    let marks = self.marks.now in
    let n = length marks in
    let i = c.loop-i.i in
    let was = c.loop-i.stripe in
    let long : n ≡ coding.k + coding.m = self.long in
    λ w word left.
    let before = c.loop-i.invariant w word left in
    elim c.if-mark-eq0.branch [
      | then-mark-eq0 s ↦
          let here = rebuilt coding (g.C.Code.completes code) (g.C.Code.determines code) marks was
          (subst (λ x. coding.k ≤ count (marks_held marks) x) long self.enough) w word
          (λ x l. before.0 x (omega arith)) i (omega arith) in
          subst (λ z. Leaves marks n z w × Stores (i + 1) z w) (sym s.stripe-is) (
            still_left marks n was s.restore.new.stripe w i (mark_missing marks i s.if-mark-eq0.true) s.restore.ensures.others before.0,
            one_more was s.restore.new.stripe w i s.restore.ensures.others (s.restore.ensures.here ∙ here) before.1,
          )
      | else-mark-eq0 s ↦
          subst (λ z. Leaves marks n z w × Stores (i + 1) z w) (sym s.stripe-is)
          (before.0, one_more was was w i (λ x ne. refl) (before.0 i (omega arith) (mark_held marks i s.if-mark-eq0.false)) before.1)
    ]
