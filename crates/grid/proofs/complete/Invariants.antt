use Rattle.std.proofs.Common.{◌≡◌, None}
use Rattle.refusal.specs.Answer.{first}
use Rattle.store.specs.Calls.{absent_at}
use Rattle.grid.proofs.complete.Given as goal

abbrev pub invariant-loop-node : goal.invariant-loop-node
invariant-loop-node g l = let k = g.B.BareReading.grid l.store in first (absent_at k.shape (k.cell l.slot)) l.node ≡ None
