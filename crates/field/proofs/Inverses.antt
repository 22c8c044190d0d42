-- The inverse. Assumes nothing.
use Rattle.std.proofs.Common.{◌≡◌, ℕ, zero, suc, ◌+◌, ◌-◌, ◌%◌, ◌<◌, ◌≤◌, Bool, true, false, cond, eqb, Some, None, unwrap_or, sym, refl, ap, ◌∙◌, ⊎_elim, arith, lit<, lit≤}
use Rattle.std.proofs.lemmas.Bool.{eqb-true, eqb-false, eq-eqb, ne_eqb, cases_eq}
use Rattle.field.specs.Field.{mul, carryless, reduced, power_of, doubled, partner, reciprocal}
use Rattle.field.specs.Laws.{FieldLaws}
use Rattle.field.proofs.Linear.{mul_xor_right}
use Rattle.field.proofs.Laws.{mul_byte, mul_assoc, mul_comm, one_mul, mul_one, zero_mul}
use Rattle.field.proofs.Powers.{power_add, power_mod, power_byte, log_of, log_below, power_log}

-- by logarithms
pub power_inverse : (n : ℕ) → n < 255 → mul (power_of n) (power_of ((255 - n) % 255)) ≡ 1
unfolding power_of doubled
power_inverse n h =
    let e : n + (255 - n) ≡ 255 = omega arith in
    ap (mul (power_of n)) (power_mod (255 - n)) ∙ power_add n (255 - n) ∙ ap power_of e

-- an inverse is found where there is one
partner_right : (n a b : ℕ) → b < n → mul a b ≡ 1 → mul a (partner n a) ≡ 1
unfolding partner
partner_right zero a b h e = absurd (omega arith)
partner_right (suc n) a b h e = go (eqb (mul a n) 1) refl (λ k. partner_right n a b k e)
  where
    go : (t : Bool) → eqb (mul a n) 1 ≡ t → (b < n → mul a (partner n a) ≡ 1) → mul a (cond t n (partner n a)) ≡ 1
    go true q ih = eqb-true (mul a n) 1 q
    go false q ih =
        let ne : b ≡ n → ⊥ = λ z. eqb-false (mul a n) 1 q (ap (mul a) (sym z) ∙ e) in
        ih (omega arith)

partner_byte : (n a : ℕ) → n ≤ 256 → partner n a < 256
unfolding partner
partner_byte zero a h = lit< tt
partner_byte (suc n) a h =
    elim (eqb (mul a n) 1) as (λ t. cond t n (partner n a) < 256) [ true ↦ h | false ↦ partner_byte n a (omega arith) ]

pub inverse_zero : reciprocal 0 ≡ 0
unfolding reciprocal partner mul reduced carryless
inverse_zero = refl

pub inverse_byte : (a : ℕ) → reciprocal a < 256
unfolding reciprocal
inverse_byte a = partner_byte 256 a (lit≤ tt)

pub mul_inverse : (a : ℕ) → 0 < a → a < 256 → mul a (reciprocal a) ≡ 1
unfolding reciprocal
mul_inverse a p h =
    partner_right 256 a (power_of ((255 - log_of a) % 255)) (power_byte _)
    (ap (λ x. mul x (power_of ((255 - log_of a) % 255))) (sym (power_log a p h)) ∙ power_inverse (log_of a) (log_below a h))

-- a byte has no other inverse
pub inverse_only : (a b : ℕ) → 0 < a → a < 256 → b < 256 → mul a b ≡ 1 → b ≡ reciprocal a
inverse_only a b p ha hb e =
    sym (mul_one b hb) ∙ ap (mul b) (sym (mul_inverse a p ha)) ∙ sym (mul_assoc b a (reciprocal a))
    ∙ ap (λ x. mul x (reciprocal a)) (mul_comm b a ∙ e) ∙ one_mul (reciprocal a) (inverse_byte a)

-- what the code makes of an answer of `inverse`
pub inverse_or_zero : (a : ℕ) → unwrap_or (cond (eqb a 0) None (Some (reciprocal a))) 0 ≡ reciprocal a
inverse_or_zero a =
    ⊎_elim (λ e. ap (λ b. unwrap_or (cond b None (Some (reciprocal a))) 0) (eq-eqb a 0 e) ∙ sym (ap reciprocal e ∙ inverse_zero))
    (λ ne. ap (λ b. unwrap_or (cond b None (Some (reciprocal a))) 0) (ne_eqb a 0 ne)) (cases_eq a 0)

pub field_laws : FieldLaws
field_laws = record {
  product_byte = mul_byte;
  product_commutes = mul_comm;
  product_associates = mul_assoc;
  product_distributes = mul_xor_right;
  one_is_neutral = mul_one;
  inverse_byte = inverse_byte;
  inverse_inverts = mul_inverse;
  inverse_only = inverse_only;
  zero_has_none = zero_mul;
}
