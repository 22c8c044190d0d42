use Rattle.std.proofs.Common.{◌≡◌, ℕ, ◌<◌, length, get_or}
use Rattle.stripe.specs.Hex.{WritesByte}
use Rattle.stripe.proofs.hex.read_block.Given as goal

abbrev pub invariant-loop-j : goal.invariant-loop-j
invariant-loop-j l = (length l.block ≡ 64) × ((k : ℕ) → k < l.j → WritesByte l.word k (get_or l.block k 0))
