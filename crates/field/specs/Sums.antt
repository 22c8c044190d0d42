-- Sums and products over the numbers below a bound that a test chooses.
use Rattle.std.specs.Prelude.{ℕ, zero, suc, Bool, cond, bit_xor}
use Rattle.field.specs.Field.{mul}

unfoldable pub summed : (ℕ → Bool) → (ℕ → ℕ) → ℕ → ℕ
summed chosen f zero = 0
summed chosen f (suc n) = cond (chosen n) (bit_xor (summed chosen f n) (f n)) (summed chosen f n)

unfoldable pub multiplied : (ℕ → Bool) → (ℕ → ℕ) → ℕ → ℕ
multiplied chosen f zero = 1
multiplied chosen f (suc n) = cond (chosen n) (mul (multiplied chosen f n) (f n)) (multiplied chosen f n)
