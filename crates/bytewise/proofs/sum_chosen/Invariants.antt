use Rattle.std.proofs.Common.{◌≡◌, ℕ, ◌+◌, ◌*◌, ◌<◌, false, drop, get_or}
use Rattle.std.specs.Iterator.Adapters.{enumerate_count, zip_first, zip_second}
use Rattle.std.specs.Slice.Iter.{iter_rest}
use Rattle.field.specs.Field.{mul}
use Rattle.field.specs.Sums.{summed}
use Rattle.bytewise.proofs.Steps.{BlocksLeft}
use Rattle.bytewise.proofs.sum_chosen.Given as goal

abbrev pub invariant-loop-i : goal.invariant-loop-i
invariant-loop-i g l = record {
  left : BlocksLeft l.blocks (zip_first l.i-iterator);
  flags : iter_rest (zip_second l.i-iterator) ≡ drop (enumerate_count (zip_first l.i-iterator)) l.chosen;
  added : (j : ℕ) → j < 64 → get_or l.out j 0 ≡ summed (λ i. get_or l.chosen i false) (λ i. mul (get_or l.blocks (i * 64 + j) 0) ((g.B.Bytewise.recipe l.code).weight (λ i. get_or l.chosen i false) l.wanted i)) (enumerate_count (zip_first l.i-iterator));
}
