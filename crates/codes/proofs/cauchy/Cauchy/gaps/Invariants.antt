use Rattle.std.proofs.Common.{◌≡◌, false, not, ◌&&◌, eqb, get_or}
use lib.Bits.{bit_xor}
use Rattle.field.specs.Sums.{multiplied}
use Rattle.recovery.specs.Weights.{point}
use Rattle.codes.proofs.cauchy.Cauchy.gaps.Given as goal

abbrev pub invariant-loop-j : goal.invariant-loop-j
invariant-loop-j l =
    l.all ≡ multiplied (λ j. get_or l.chosen j false && not (eqb j l.i)) (λ j. bit_xor (point l.self.k l.x) (point l.self.k j)) l.j
