-- Worked values of the field and of the Cauchy code.
use Rattle.std.specs.Prelude.{◌≡◌, ℕ, zero, suc}
use Rattle.field.specs.Field.{mul}
use Rattle.recovery.specs.Rules.{cauchy_rule}

-- data bytes a, b, and nothing after them
abbrev pub two_bytes : ℕ → ℕ → ℕ → ℕ
two_bytes a b zero = a
two_bytes a b (suc zero) = b
two_bytes a b (suc (suc d)) = 0

pub record FieldAndCauchyExamples : Type 0 where
  pub two_times_128_is_29 : mul 2 128 ≡ 29
  pub seventeen_times_114_is_1 : mul 17 114 ≡ 1
  pub nothing_times_200_is_0 : mul 0 200 ≡ 0
  pub bytes_1_1_have_checks_170_170 : (cauchy_rule 2 0 (two_bytes 1 1) ≡ 170) × (cauchy_rule 2 1 (two_bytes 1 1) ≡ 170)
  pub bytes_1_0_have_checks_216_114 : (cauchy_rule 2 0 (two_bytes 1 0) ≡ 216) × (cauchy_rule 2 1 (two_bytes 1 0) ≡ 114)
