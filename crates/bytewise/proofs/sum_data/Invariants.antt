use Rattle.std.proofs.Common.{◌≡◌, ℕ, ◌+◌, ◌*◌, ◌<◌, length, get_or}
use Rattle.std.specs.Iterator.Adapters.{enumerate_count}
use Rattle.field.specs.Field.{mul}
use Rattle.field.specs.Sums.{summed}
use Rattle.recovery.specs.Rules.{every}
use Rattle.bytewise.proofs.Steps.{BlocksLeft}
use Rattle.bytewise.proofs.sum_data.Given as goal

abbrev pub invariant-loop-d : goal.invariant-loop-d
invariant-loop-d g l = record {
  room : length l.out ≡ 64;
  left : BlocksLeft l.given l.d-iterator;
  added : (j : ℕ) → j < 64 → get_or l.out j 0 ≡ summed every (λ d. mul (get_or l.given (d * 64 + j) 0) ((g.B.Bytewise.recipe l.code).coefficient l.e d)) (enumerate_count l.d-iterator);
}
