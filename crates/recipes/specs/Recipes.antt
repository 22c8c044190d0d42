-- The three codes, as recipes.
use Rattle.std.specs.Prelude.{ℕ}
use Rattle.recovery.specs.Rules.{copy_rule, sum_rule, cauchy_rule, coefficient}
use Rattle.recovery.specs.Weights.{copy_weight, sum_weight, cauchy_weight}
use Rattle.bytewise.specs.Words.{Recipe}

abbrev pub one : ℕ → ℕ → ℕ
one e d = 1

abbrev pub copy_recipe : ℕ → Recipe
copy_recipe m = record { k = 1; m = m; rule = copy_rule; coefficient = one; weight = copy_weight }

abbrev pub sum_recipe : ℕ → Recipe
sum_recipe k = record { k = k; m = 1; rule = sum_rule k; coefficient = one; weight = sum_weight }

abbrev pub cauchy_recipe : ℕ → ℕ → Recipe
cauchy_recipe k m = record { k = k; m = m; rule = cauchy_rule k; coefficient = coefficient; weight = cauchy_weight k m }
