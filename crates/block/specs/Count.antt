-- How many numbers pass a test.
use Rattle.std.specs.Prelude.{ℕ, zero, suc, Bool, cond}

-- of the numbers below n
abbrev pub count : (ℕ → Bool) → ℕ → ℕ
count test zero = 0
count test (suc n) = cond (test n) (suc (count test n)) (count test n)
