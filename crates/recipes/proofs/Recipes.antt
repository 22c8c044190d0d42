-- The three recipes work, and are within the limits. Assumes nothing.
use Rattle.std.proofs.Common.{ℕ, ◌≤◌, refl, sym, lit<}
use Rattle.field.specs.Field.{mul}
use Rattle.field.specs.Sums.{summed}
use Rattle.field.proofs.Laws.{mul_one}
use Rattle.recovery.specs.Rules.{every}
use Rattle.recovery.proofs.Sums.{summed_same}
use Rattle.recovery.proofs.Plain.{copy_recovers, sum_recovers}
use Rattle.interpolation.proofs.Cauchy.{cauchy_recovers}
use Rattle.code.specs.Word.{Limits}
use Rattle.bytewise.specs.Words.{Recipe, Works, coded}
use Rattle.recipes.specs.Recipes.{copy_recipe, sum_recipe, cauchy_recipe}

pub copy_works : (m : ℕ) → Works (copy_recipe m)
unfolding summed
copy_works m = record { recovers = copy_recovers m; sums = λ e w l small. sym (mul_one (w 0) (small 0 (lit< tt))) }

pub sum_works : (k : ℕ) → Works (sum_recipe k)
sum_works k = record {
  recovers = sum_recovers k;
  sums = λ e w l small. summed_same every w (λ d. mul (w d) 1) k (λ d h t. sym (mul_one (w d) (small d h)));
}

pub cauchy_works : (k m : ℕ) → k ≤ 12 → m ≤ 4 → Works (cauchy_recipe k m)
cauchy_works k m hk hm = record { recovers = cauchy_recovers k m hk hm; sums = λ e w l small. refl }

-- a recipe within the limits gives a code within them
pub limited : (r : Recipe) → (1 ≤ r.k) × (r.k ≤ 12) → (1 ≤ r.m) × (r.m ≤ 4) → Limits (coded r)
limited r few fewer = record { k_least = few.0; k_most = few.1; m_least = fewer.0; m_most = fewer.1 }
