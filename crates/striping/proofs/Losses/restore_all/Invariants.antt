use Rattle.std.proofs.Common.{length}
use Rattle.block.specs.Block.{Blocks}
use Rattle.striping.specs.Stripe.{Stores, Leaves}
use Rattle.striping.proofs.Losses.restore_all.Given as goal

abbrev pub invariant-loop-i : goal.invariant-loop-i
invariant-loop-i g l =
    let marks = l.self.marks.now in
    (w : Blocks) → (g.C.Code.coding l.self.code.now).Word w → Leaves marks (length marks) l.initial.stripe w
    → Leaves marks (length marks) l.stripe w × Stores l.i l.stripe w
