use Rattle.std.proofs.Common.{◌≡◌, not, is_some, None}
use Rattle.refusal.specs.Answer.{first, refuse}
use Rattle.refusal.specs.declared.kind.Refusal.TheVariants.{Incomplete}
use Rattle.grid.proofs.node_complete.Given as goal

abbrev pub invariant-loop-place : goal.invariant-loop-place
invariant-loop-place g l = first (λ p. refuse (not (is_some ((g.B.BareReading.grid l.store).cell l.slot l.node p))) (Incomplete l.node p) None) l.place ≡ None
