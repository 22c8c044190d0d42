-- The points of the Cauchy code: they differ, and the products of their differences are not 0. Assumes nothing.
use Rattle.std.proofs.Common.{◌≡◌, ℕ, ◌+◌, ◌-◌, ◌<◌, ◌≤◌, ltb, refl, ap, ◌∙◌, subst, ap₂, ⊎_elim, arith}
use lib.Bits.{bit_xor}
use Rattle.std.proofs.lemmas.Bool.{cond-true, cond-false, lt-ltb, le-ltb, cases_lt}
use Rattle.field.specs.Field.{mul, reciprocal}
use Rattle.recovery.specs.Rules.{every, coefficient}
use Rattle.recovery.specs.Weights.{point, gaps}
use Rattle.recovery.proofs.Nonzero.{Nonzero, quotient}
use Rattle.interpolation.proofs.Products.{without, without_other, multiplied_same, multiplied_out}
use Rattle.interpolation.proofs.Zeros.{Points, points_below, points_nonzero}
use Rattle.interpolation.proofs.Lagrange.{others_nonzero}

point_data : (k d : ℕ) → d < k → point k d ≡ 16 + d
point_data k d h = cond-true (ltb d k) _ _ (lt-ltb d k h)

point_check : (k c : ℕ) → k ≤ c → point k c ≡ c - k
point_check k c h = cond-false (ltb c k) _ _ (le-ltb c k h)

-- the gaps between the point of c and those of the other data
abbrev pub scale : ℕ → ℕ → ℕ
scale k c = gaps k k every c c

module _ (k m : ℕ) (hk : k ≤ 12) (hm : m ≤ 4) where
  pub points : Points (point k) (k + m)
  points = record {
    bytes = λ i h. ⊎_elim (λ (l : i < k). omega (arith, point_data k i l)) (λ (l : k ≤ i). omega (arith, point_check k i l)) (cases_lt i k);
    differ = λ i j hi hj ne e.
        ⊎_elim
        (λ (l : i < k). ⊎_elim
        (λ (s : j < k). omega (arith, point_data k i l, point_data k j s))
        (λ (s : k ≤ j). omega (arith, point_data k i l, point_check k j s)) (cases_lt j k))
        (λ (l : k ≤ i). ⊎_elim
        (λ (s : j < k). omega (arith, point_check k i l, point_data k j s))
        (λ (s : k ≤ j). omega (arith, point_check k i l, point_check k j s)) (cases_lt j k))
        (cases_lt i k);
  }

  pub data_points : Points (point k) k
  data_points = points_below (point k) k (k + m) (λ i l. omega arith) points

  pub scale_nonzero : (c : ℕ) → c < k + m → Nonzero (scale k c)
  scale_nonzero c h = others_nonzero every (point k) k (k + m) points (omega arith) c h

  -- a check's scale over one of its gaps
  pub scale_over : (e d : ℕ) → e < m → d < k → mul (reciprocal (scale k (k + e))) (gaps k k every (k + e) d) ≡ coefficient e d
  scale_over e d he hd =
      let gap = bit_xor (point k (k + e)) (point k d) in
      let rest = gaps k k every (k + e) d in
      let whole : scale k (k + e) ≡ mul gap rest =
      multiplied_same (without every (k + e)) every (λ j. bit_xor (point k (k + e)) (point k j)) k (λ j l. without_other every (k + e) j (λ q. omega arith))
      ∙ multiplied_out every d refl (λ j. bit_xor (point k (k + e)) (point k j)) k hd in
      let gap_nonzero : Nonzero gap = points_nonzero (point k) (k + m) points (k + e) d (omega arith) (omega arith) (λ q. omega arith) in
      let whole_nonzero : Nonzero (mul gap rest) = subst Nonzero whole (scale_nonzero (k + e) (omega arith)) in
      let check : point k (k + e) ≡ e = omega (arith, point_check k (k + e) (omega arith)) in
      ap (λ x. mul (reciprocal x) rest) whole ∙ quotient gap rest gap_nonzero whole_nonzero
      ∙ ap₂ (λ x y. reciprocal (bit_xor x y)) check (point_data k d hd)
