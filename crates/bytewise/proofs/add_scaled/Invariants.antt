use Rattle.std.proofs.Common.{◌≡◌, ℕ, ◌<◌, ◌≤◌, get_or}
use lib.Bits.{bit_xor}
use Rattle.field.specs.Field.{mul}
use Rattle.bytewise.proofs.add_scaled.Given as goal

abbrev pub invariant-loop-j : goal.invariant-loop-j
invariant-loop-j l = record {
  added : (i : ℕ) → i < l.j → get_or l.out i 0 ≡ bit_xor (get_or l.initial.out i 0) (mul (get_or l.block i 0) l.weight);
  rest : (i : ℕ) → l.j ≤ i → get_or l.out i 0 ≡ get_or l.initial.out i 0;
}
