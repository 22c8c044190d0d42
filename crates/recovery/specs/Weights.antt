-- The weights by which each code gives a byte back from k others.
use Rattle.std.specs.Prelude.{ℕ, ◌+◌, ◌-◌, Bool, cond, not, ◌&&◌, ◌==◌, bit_xor, nat_lt}
use Rattle.field.specs.Field.{mul, reciprocal}
use Rattle.field.specs.Sums.{multiplied}
use Rattle.recovery.specs.Recovers.{Weights}
use Rattle.recovery.specs.Rules.{every}

-- copies: whichever is chosen
abbrev pub copy_weight : Weights
copy_weight chosen c i = 1

-- the sum: a chosen byte is itself, and the other one is the sum of all that are chosen
abbrev pub sum_weight : Weights
sum_weight chosen c i = cond (chosen c) (cond (c == i) 1 0) 1

-- Cauchy: every block has a point, data d the point 16 + d and check e the point e
abbrev pub point : ℕ → ℕ → ℕ
point k c = cond (nat_lt c k) (16 + c) (c - k)

-- the product of the differences between the point of x and those of the chosen numbers below n, without i
abbrev pub gaps : ℕ → ℕ → (ℕ → Bool) → ℕ → ℕ → ℕ
gaps k n chosen x i = multiplied (λ j. chosen j && not (j == i)) (λ j. bit_xor (point k x) (point k j)) n

-- Each byte of a word, times the gaps between its point and those of the other data, is one polynomial of degree below k
-- at its point. So these are Lagrange's coefficients.
abbrev pub cauchy_weight : ℕ → ℕ → Weights
cauchy_weight k m chosen c i =
    mul (mul (gaps k k every i i) (gaps k (k + m) chosen c i)) (reciprocal (mul (gaps k k every c c) (gaps k (k + m) chosen i i)))
