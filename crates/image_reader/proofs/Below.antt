-- Tests of all the numbers below a bound, or of some. Assumes nothing.
use Rattle.std.proofs.Common.{◌≡◌, ℕ, zero, suc, ◌+◌, ◌<◌, Bool, true, false, ◌&&◌, ◌||◌, List, [], ◌∷◌, length, get_or, sym, refl, ap, ◌∙◌, ap₂, ⊎_elim, zero-add, arith}
use mathlib.Core.Bool.{and-true, and_assoc, or-false, or_assoc}
use Rattle.std.specs.List.{list_all, list_any, range_with_len}
use Rattle.std.proofs.lemmas.Bool.{cases_eq, and_parts, or_left, or_right}
use Rattle.image_reader.specs.Damage.{all_below, some_below}

module _ (f : ℕ → Bool) where
  pub all_at : (n : ℕ) → all_below f n ≡ true → (i : ℕ) → i < n → f i ≡ true
  all_at zero e i l = absurd (omega arith)
  all_at (suc n) e i l =
      let s = and_parts (all_below f n) (f n) e in
      ⊎_elim (λ (q : i ≡ n). ap f q ∙ s.1) (λ (ne : i ≡ n → ⊥). all_at n s.0 i (omega arith)) (cases_eq i n)

  pub some_at : (n i : ℕ) → i < n → f i ≡ true → some_below f n ≡ true
  some_at zero i l e = absurd (omega arith)
  some_at (suc n) i l e =
      ⊎_elim (λ (s : i ≡ n). or_right (some_below f n) (f n) (ap f (sym s) ∙ e))
      (λ (ne : i ≡ n → ⊥). or_left (some_below f n) (f n) (some_at n i (omega arith) e)) (cases_eq i n)

  pub none_from : (n : ℕ) → ((i : ℕ) → i < n → f i ≡ false) → some_below f n ≡ false
  none_from zero h = refl
  none_from (suc n) h = ap₂ ◌||◌ (none_from n (λ i l. h i (omega arith))) (h n (omega arith))

-- a test of all, or of some, begins with the first number
all_front : (f : ℕ → Bool) (n : ℕ) → all_below f (suc n) ≡ (f 0 && all_below (λ j. f (suc j)) n)
all_front f zero = sym (and-true (f 0))
all_front f (suc n) = ap (λ b. b && f (suc n)) (all_front f n) ∙ and_assoc (f 0) _ (f (suc n))

some_front : (f : ℕ → Bool) (n : ℕ) → some_below f (suc n) ≡ (f 0 || some_below (λ j. f (suc j)) n)
some_front f zero = sym (or-false (f 0))
some_front f (suc n) = ap (λ b. b || f (suc n)) (some_front f n) ∙ or_assoc (f 0) _ (f (suc n))

-- what an iterator's `all` answers over a list, and its `any` over the numbers below a bound
pub all_listed : (p : ℕ → Bool) (xs : List ℕ) → list_all p xs ≡ all_below (λ j. p (get_or xs j 0)) (length xs)
all_listed p [] = refl
all_listed p (x ∷ xs) = ap (λ b. p x && b) (all_listed p xs) ∙ sym (all_front (λ j. p (get_or (x ∷ xs) j 0)) (length xs))

some_from : (f : ℕ → Bool) (a n : ℕ) → list_any f (range_with_len a n) ≡ some_below (λ j. f (a + j)) n
some_from f a zero = refl
some_from f a (suc n) =
    let first : a ≡ a + 0 = omega arith in
    let next : (j : ℕ) → a + 1 + j ≡ a + suc j = λ j. omega arith in
    ap₂ (λ k b. f k || b) first (some_from f (a + 1) n ∙ (λ i. some_below (λ j. f (next j i)) n)) ∙ sym (some_front (λ j. f (a + j)) n)

pub some_listed : (f : ℕ → Bool) (n : ℕ) → list_any f (range_with_len 0 n) ≡ some_below f n
some_listed f n = some_from f 0 n ∙ (λ i. some_below (λ j. f (zero-add j i)) n)
