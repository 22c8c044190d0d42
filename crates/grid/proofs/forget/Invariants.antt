use Rattle.std.proofs.Common.{◌≡◌, ℕ, ◌<◌}
use Rattle.grid.proofs.Rounds.{dropped_below}
use Rattle.grid.proofs.forget.Given as goal

abbrev pub invariant-loop-slot : goal.invariant-loop-slot
invariant-loop-slot g l = (g.B.BareReading.grid l.store ≡ dropped_below (g.B.BareReading.grid l.initial.store) l.slot l.node) × ((s : ℕ) → s < l.slot → g.B.BareStore.wiped l.store s l.node)
