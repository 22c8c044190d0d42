-- A polynomial of degree below n with n zeros is 0, so n points determine it. Assumes nothing.
use Rattle.std.proofs.Common.{◌≡◌, ℕ, zero, suc, ◌<◌, Bool, true, false, cond, sym, refl, ap, ◌∙◌, arith}
use lib.Bits.{bit_xor, xor_self}
use Rattle.block.specs.Count.{count}
use Rattle.field.specs.Field.{mul}
use Rattle.field.proofs.Laws.{mul_zero}
use Rattle.recovery.proofs.Nonzero.{Nonzero, zero_factor, xor_equal, xor_nonzero}
use Rattle.interpolation.proofs.Polynomials.{Polynomial, polynomial_byte, polynomial_sum}

-- points that are bytes and differ
pub record Points (point : ℕ → ℕ) (n : ℕ) : Type 0 where
  pub bytes : (i : ℕ) → i < n → point i < 256
  pub differ : (i j : ℕ) → i < n → j < n → (i ≡ j → ⊥) → point i ≡ point j → ⊥

pub points_below : (point : ℕ → ℕ) (n m : ℕ) → ((i : ℕ) → i < n → i < m) → Points point m → Points point n
points_below point n m h p =
    record { bytes = λ i l. p.bytes i (h i l); differ = λ i j l k. p.differ i j (h i l) (h j k) }

pub points_nonzero : (point : ℕ → ℕ) (n : ℕ) → Points point n → (i j : ℕ) → i < n → j < n → (i ≡ j → ⊥) → Nonzero (bit_xor (point i) (point j))
points_nonzero point n p i j hi hj ne = xor_nonzero (point i) (point j) (p.bytes i hi) (p.bytes j hj) (p.differ i j hi hj ne)

module _ (chosen : ℕ → Bool) (point : ℕ → ℕ) where
  abbrev Zeros : (ℕ → ℕ) → ℕ → Type 0
  Zeros f n = (i : ℕ) → i < n → chosen i ≡ true → f (point i) ≡ 0

  -- one more number below the bound, which is chosen or not
  one_more : (n : ℕ) → Points point (suc n) → ((g : ℕ → ℕ) → Polynomial (count chosen n) g → Zeros g n → (x : ℕ) → g x ≡ 0)
      → (b : Bool) (f : ℕ → ℕ) → Polynomial (cond b (suc (count chosen n)) (count chosen n)) f → Zeros f n → (b ≡ true → f (point n) ≡ 0)
      → (x : ℕ) → f x ≡ 0
  one_more n ps below false f p z w x = below f p z x
  one_more n ps below true f p z w x =
      let r = p.1 (point n) in
      let g = r.0 in
      let divided : (y : ℕ) → f y ≡ mul (bit_xor y (point n)) (g y) = λ y. r.2 y ∙ ap (λ u. bit_xor u (mul (bit_xor y (point n)) (g y))) (w refl) in
      let zeros : Zeros g n =
      λ i l t. zero_factor (bit_xor (point i) (point n)) (g (point i)) (points_nonzero point (suc n) ps i n (omega arith) (omega arith) (λ e. omega arith))
      (polynomial_byte (count chosen n) g r.1 (point i)) (sym (divided (point i)) ∙ z i l t) in
      divided x ∙ ap (mul (bit_xor x (point n))) (below g r.1 zeros x) ∙ mul_zero (bit_xor x (point n))

  vanishes : (n : ℕ) → Points point n → (f : ℕ → ℕ) → Polynomial (count chosen n) f → Zeros f n → (x : ℕ) → f x ≡ 0
  vanishes zero ps f p z x = p x
  vanishes (suc n) ps f p z x =
      one_more n ps (vanishes n (points_below point n (suc n) (λ i l. omega arith) ps)) (chosen n) f p (λ i l. z i (omega arith)) (z n (omega arith)) x

  -- two that agree at as many points as their degree allows are the same
  pub polynomial_same : (n : ℕ) → Points point n → (f h : ℕ → ℕ) → Polynomial (count chosen n) f → Polynomial (count chosen n) h
      → ((i : ℕ) → i < n → chosen i ≡ true → f (point i) ≡ h (point i)) → (x : ℕ) → f x ≡ h x
  polynomial_same n ps f h p q e x =
      xor_equal (f x) (h x) (vanishes n ps (λ y. bit_xor (f y) (h y)) (polynomial_sum (count chosen n) f h p q)
      (λ i l t. ap (bit_xor (f (point i))) (sym (e i l t)) ∙ xor_self (f (point i))) x)
