-- The polynomial through given values at chosen points, and that every polynomial is the one through its own. Assumes nothing.
use Rattle.std.proofs.Common.{◌≡◌, ℕ, ◌<◌, ◌≤◌, Bool, true, eqb, sym, ap, ◌∙◌, subst, arith}
use lib.Bits.{bit_xor, xor_self}
use Rattle.std.proofs.lemmas.Bool.{and_parts, not-true, eqb-false}
use Rattle.block.specs.Count.{count}
use Rattle.field.specs.Field.{mul, reciprocal}
use Rattle.field.specs.Sums.{summed, multiplied}
use Rattle.field.proofs.Laws.{mul_comm, mul_zero, mul_one}
use Rattle.recovery.proofs.Nonzero.{Nonzero, inverts}
use Rattle.recovery.proofs.Sums.{summed_same, summed_at}
use Rattle.interpolation.proofs.Products.{without, without_other, multiplied_zero, multiplied_nonzero, count_out}
use Rattle.interpolation.proofs.Polynomials.{Polynomial, polynomial_byte, polynomial_times, polynomial_summed, polynomial_multiplied}
use Rattle.interpolation.proofs.Zeros.{Points, points_nonzero, polynomial_same}

-- the product of the differences between x and the chosen points but that of i
abbrev pub others : (ℕ → Bool) → (ℕ → ℕ) → ℕ → ℕ → ℕ → ℕ
others chosen point n x i = multiplied (without chosen i) (λ j. bit_xor x (point j)) n

-- the sum of the values, each times the polynomial that is 1 at its point and 0 at the others
abbrev pub through : (ℕ → Bool) → (ℕ → ℕ) → ℕ → (ℕ → ℕ) → ℕ → ℕ
through chosen point n v x =
    summed chosen (λ i. mul (v i) (mul (reciprocal (others chosen point n (point i) i)) (others chosen point n x i))) n

pub through_same : (chosen : ℕ → Bool) (point : ℕ → ℕ) (n : ℕ) (v w : ℕ → ℕ) → ((i : ℕ) → i < n → chosen i ≡ true → v i ≡ w i)
    → (x : ℕ) → through chosen point n v x ≡ through chosen point n w x
through_same chosen point n v w h x =
    summed_same chosen _ _ n
    (λ i l t. ap (λ y. mul y (mul (reciprocal (others chosen point n (point i) i)) (others chosen point n x i))) (h i l t))

pub others_nonzero : (chosen : ℕ → Bool) (point : ℕ → ℕ) (n m : ℕ) → Points point m → n ≤ m → (a : ℕ) → a < m → Nonzero (others chosen point n (point a) a)
others_nonzero chosen point n m ps h a l =
    multiplied_nonzero (without chosen a) (λ j. bit_xor (point a) (point j)) n
    (λ j k t. points_nonzero point m ps a j l (omega arith)
    (λ e. eqb-false j a (not-true (eqb j a) (and_parts (chosen j) _ t).1) (sym e)))

module _ (chosen : ℕ → Bool) (point : ℕ → ℕ) (n : ℕ) (ps : Points point n) where
  pub through_polynomial : (v : ℕ → ℕ) → Polynomial (count chosen n) (through chosen point n v)
  through_polynomial v =
      polynomial_summed (count chosen n) chosen _ n
      (λ i l t. polynomial_times (count chosen n) (v i) _ (polynomial_times (count chosen n) _ _
      (subst (λ d. Polynomial d (λ x. others chosen point n x i)) (sym (count_out chosen i t n l)) (polynomial_multiplied (without chosen i) point n))))

  pub through_at : (v : ℕ → ℕ) (a : ℕ) → a < n → chosen a ≡ true → v a < 256 → through chosen point n v (point a) ≡ v a
  through_at v a l t h =
      let own = others chosen point n (point a) a in
      summed_at chosen _ n a l t
      (λ i k c ne. ap (mul (v i)) (ap (mul (reciprocal (others chosen point n (point i) i)))
      (multiplied_zero (without chosen i) (λ j. bit_xor (point a) (point j)) n a l (without_other chosen i a (λ e. ne (sym e)) ∙ t) (xor_self (point a)))
      ∙ mul_zero _) ∙ mul_zero (v i))
      ∙ ap (mul (v a)) (mul_comm (reciprocal own) own ∙ inverts own (others_nonzero chosen point n n ps (omega arith) a l)) ∙ mul_one (v a) h

  pub through_own : (f : ℕ → ℕ) → Polynomial (count chosen n) f → (x : ℕ) → f x ≡ through chosen point n (λ i. f (point i)) x
  through_own f p =
      polynomial_same chosen point n ps f (through chosen point n (λ i. f (point i))) p (through_polynomial (λ i. f (point i)))
      (λ i l t. sym (through_at (λ j. f (point j)) i l t (polynomial_byte (count chosen n) f p (point i))))
