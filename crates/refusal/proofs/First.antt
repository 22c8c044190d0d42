-- The first of several refusals, as a loop finds it. Assumes nothing.
use Rattle.std.proofs.Common.{◌≡◌, ℕ, zero, suc, ◌+◌, ◌<◌, true, false, is_some, Some, None, Option, sym, refl, ap₂, ⊎_elim, add-one, arith}
use Rattle.std.specs.Option.{option_or}
use Rattle.std.proofs.lemmas.Bool.{cases_eq, false≢true}
use Rattle.refusal.specs.Answer.{first}
use Rattle.refusal.specs.declared.kind.Refusal.{Refusal}

-- none so far, and none here
pub first_more : (f : ℕ → Option Refusal) (i : ℕ) → first f i ≡ None → f i ≡ None → first f (i + 1) ≡ None
first_more f i e k = rw (add-one, e) k

some_stays : (a b : Option Refusal) → is_some a ≡ true → option_or a b ≡ a
some_stays None b e = absurd (false≢true e)
some_stays (Some x) b e = refl

-- none so far, and one here
pub first_found : (f : ℕ → Option Refusal) (i n : ℕ) → first f i ≡ None → is_some (f i) ≡ true → i < n → first f n ≡ f i
first_found f i zero e k l = absurd (omega arith)
first_found f i (suc n) e k l = ⊎_elim (λ j. here j) (λ j. later (first_found f i n e k (omega arith))) (cases_eq i n) where
  here : i ≡ n → option_or (first f n) (f n) ≡ f i
  here j = rw (← j, e)

  later : first f n ≡ f i → option_or (first f n) (f n) ≡ f i
  later r = rw r (some_stays (f i) (f n) k)

pub none_left : (a b : Option Refusal) → option_or a b ≡ None → (a ≡ None) × (b ≡ None)
none_left None b e = (refl, e)
none_left (Some x) b e = let z : ◌≡◌ {A = ℕ} 0 1 = cc in absurd (omega arith)

-- none at all
pub first_none : (f : ℕ → Option Refusal) (n k : ℕ) → first f n ≡ None → k < n → f k ≡ None
first_none f zero k e l = absurd (omega arith)
first_none f (suc n) k e l = ⊎_elim (λ j. rw j (none_left (first f n) (f n) e).1) (λ j. first_none f n k (none_left (first f n) (f n) e).0 (omega arith)) (cases_eq k n)

pub none_from : (o : Option Refusal) → is_some o ≡ false → o ≡ None
none_from None e = refl
none_from (Some x) e = absurd (false≢true (sym e))

-- and where there is none at each, there is none
pub first_all : (f : ℕ → Option Refusal) (n : ℕ) → ((k : ℕ) → k < n → f k ≡ None) → first f n ≡ None
first_all f zero h = refl
first_all f (suc n) h = rw (first_all f n (λ k l. h k (omega arith))) (h n (omega arith))

pub first_same : (f g : ℕ → Option Refusal) (n : ℕ) → ((k : ℕ) → k < n → f k ≡ g k) → first f n ≡ first g n
first_same f g zero h = refl
first_same f g (suc n) h = ap₂ option_or (first_same f g n (λ k l. h k (omega arith))) (h n (omega arith))
