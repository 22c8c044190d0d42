-- The rules of the three codes, byte by byte.
use Rattle.std.specs.Prelude.{ℕ, ◌+◌, Bool, true, bit_xor}
use Rattle.field.specs.Field.{mul, reciprocal}
use Rattle.field.specs.Sums.{summed}
use Rattle.recovery.specs.Recovers.{Rule}

-- every number is chosen
abbrev pub every : ℕ → Bool
every i = true

-- copies, k = 1: every check equals the data
abbrev pub copy_rule : Rule
copy_rule e w = w 0

-- the sum, m = 1: the check is the XOR of the data
abbrev pub sum_rule : ℕ → Rule
sum_rule k e w = summed every w k

-- Cauchy: the coefficient of data d in check e is the inverse of e XOR (16 + d)
abbrev pub coefficient : ℕ → ℕ → ℕ
coefficient e d = reciprocal (bit_xor e (16 + d))

-- and check e is the sum of the data, each times its coefficient
abbrev pub cauchy_rule : ℕ → Rule
cauchy_rule k e w = summed every (λ d. mul (w d) (coefficient e d)) k
