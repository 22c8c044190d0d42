-- How many numbers below a bound pass a test. Assumes nothing.
use Rattle.std.proofs.Common.{◌≡◌, ℕ, zero, suc, ◌+◌, ◌<◌, ◌≤◌, Bool, true, false, cond, not, ◌||◌, eqb, ltb, sym, refl, ap, ◌∙◌, ap₂, ⊎_elim, add-one, arith}
use Rattle.std.proofs.lemmas.Bool.{cases_eq, cases_lt, cond-true, cond-false, lt-ltb, le-ltb, eq-eqb, ne_eqb, false≢true}
use Rattle.block.specs.Count.{count}

-- one number more, which passes or not
pub count_more : (p : ℕ → Bool) (n : ℕ) → p n ≡ true → count p (n + 1) ≡ count p n + 1
count_more p n t = rw add-one (cond-true (p n) _ _ t ∙ sym (add-one (count p n)))

pub count_skip : (p : ℕ → Bool) (n : ℕ) → p n ≡ false → count p (n + 1) ≡ count p n
count_skip p n t = rw add-one (cond-false (p n) _ _ t)

-- the number 0, and then the others
pub count_front : (p : ℕ → Bool) (n : ℕ) → count p (suc n) ≡ cond (p 0) (1 + count (λ i. p (suc i)) n) (count (λ i. p (suc i)) n)
count_front p zero = refl
count_front p (suc n) = step (p (suc n)) (p 0) _ _ (count_front p n)
  where
    step : (a b : Bool) (x y : ℕ) → x ≡ cond b (1 + y) y → cond a (suc x) x ≡ cond b (1 + cond a (suc y) y) (cond a (suc y) y)
    step true true x y h = omega arith
    step true false x y h = omega arith
    step false true x y h = h
    step false false x y h = h

pub count_same : (p q : ℕ → Bool) (n : ℕ) → ((i : ℕ) → i < n → p i ≡ q i) → count p n ≡ count q n
count_same p q zero h = refl
count_same p q (suc n) h = ap₂ (λ b x. cond b (suc x) x) (h n (omega arith)) (count_same p q n (λ i l. h i (omega arith)))

pub count_none : (p : ℕ → Bool) (n : ℕ) → ((i : ℕ) → i < n → p i ≡ false) → count p n ≡ 0
count_none p zero h = refl
count_none p (suc n) h = ap (λ b. cond b (suc (count p n)) (count p n)) (h n (omega arith)) ∙ count_none p n (λ i l. h i (omega arith))

pub count_one : (a n : ℕ) → a < n → count (λ i. eqb i a) n ≡ 1
count_one a zero h = absurd (omega arith)
count_one a (suc n) h =
    ⊎_elim (λ (e : n ≡ a). ap (λ b. cond b (suc (count (λ i. eqb i a) n)) (count (λ i. eqb i a) n)) (eq-eqb n a e)
    ∙ ap suc (count_none (λ i. eqb i a) n (λ i l. ne_eqb i a (λ q. omega arith))))
    (λ (ne : n ≡ a → ⊥). ap (λ b. cond b (suc (count (λ i. eqb i a) n)) (count (λ i. eqb i a) n)) (ne_eqb n a ne) ∙ count_one a n (omega arith))
    (cases_eq n a)

-- where no number passes both
pub count_or : (p q : ℕ → Bool) → ((i : ℕ) → p i ≡ true → q i ≡ true → ⊥) → (n : ℕ) → count (λ i. p i || q i) n ≡ count p n + count q n
count_or p q d zero = refl
count_or p q d (suc n) = go (p n) (q n) (d n) (count (λ i. p i || q i) n) (count p n) (count q n) (count_or p q d n)
  where
    go : (a b : Bool) → (a ≡ true → b ≡ true → ⊥) → (x y z : ℕ) → x ≡ y + z → cond (a || b) (suc x) x ≡ cond a (suc y) y + cond b (suc z) z
    go true true e x y z h = absurd (e refl refl)
    go true false e x y z h = omega arith
    go false true e x y z h = omega arith
    go false false e x y z h = h

pub count_not : (p : ℕ → Bool) (n : ℕ) → count p n + count (λ i. not (p i)) n ≡ n
count_not p zero = refl
count_not p (suc n) =
    elim (p n) as (λ b. cond b (suc (count p n)) (count p n) + cond (not b) (suc (count (λ i. not (p i)) n)) (count (λ i. not (p i)) n) ≡ suc n)
    [ true ↦ omega (arith, count_not p n) | false ↦ omega (arith, count_not p n) ]

pub count_le : (p : ℕ → Bool) (n : ℕ) → count p n ≤ n
count_le p n = omega (arith, count_not p n)

-- one that passes is counted
pub count_some : (p : ℕ → Bool) (n i : ℕ) → i < n → p i ≡ true → 0 < count p n
count_some p zero i l t = absurd (omega arith)
count_some p (suc n) i l t =
    (elim (p n) as (λ b. p n ≡ b → 0 < cond b (suc (count p n)) (count p n)) [
      | true ↦ λ e. omega arith
      | false ↦ λ e. ⊎_elim (λ (s : i ≡ n). absurd (false≢true (sym e ∙ ap p (sym s) ∙ t))) (λ (ne : i ≡ n → ⊥). count_some p n i (omega arith) t) (cases_eq i n)
    ]) refl

-- where one passes, any two that pass are the same
pub count_only : (p : ℕ → Bool) (n : ℕ) → count p n ≡ 1 → (i j : ℕ) → i < n → j < n → p i ≡ true → p j ≡ true → i ≡ j
count_only p zero c i j li lj ti tj = absurd (omega arith)
count_only p (suc n) c i j li lj ti tj =
    (elim (p n) as (λ b. p n ≡ b → cond b (suc (count p n)) (count p n) ≡ 1 → i ≡ j) [
      | true ↦ λ e d. top i li ti d ∙ sym (top j lj tj d)
      | false ↦ λ e d. count_only p n d i j (lower e i li ti) (lower e j lj tj) ti tj
    ]) refl c
  where
    top : (x : ℕ) → x < suc n → p x ≡ true → suc (count p n) ≡ 1 → x ≡ n
    top x l t d = ⊎_elim (λ s. s) (λ (ne : x ≡ n → ⊥). absurd (omega (arith, count_some p n x (omega arith) t))) (cases_eq x n)

    lower : p n ≡ false → (x : ℕ) → x < suc n → p x ≡ true → x < n
    lower e x l t = ⊎_elim (λ (s : x ≡ n). absurd (false≢true (sym e ∙ ap p (sym s) ∙ t))) (λ (ne : x ≡ n → ⊥). omega arith) (cases_eq x n)

pub count_all : (n : ℕ) → count (λ i. true) n ≡ n
count_all zero = refl
count_all (suc n) = ap suc (count_all n)

pub count_below : (k n : ℕ) → k ≤ n → count (λ i. ltb i k) n ≡ k
count_below k zero l = omega arith
count_below k (suc n) l =
    ⊎_elim
    (λ (h : n < k). ap (λ b. cond b (suc (count (λ i. ltb i k) n)) (count (λ i. ltb i k) n)) (lt-ltb n k h)
    ∙ ap suc (count_same (λ i. ltb i k) (λ i. true) n (λ i li. lt-ltb i k (omega arith)) ∙ count_all n) ∙ omega arith)
    (λ (h : k ≤ n). ap (λ b. cond b (suc (count (λ i. ltb i k) n)) (count (λ i. ltb i k) n)) (le-ltb n k h) ∙ count_below k n h)
    (cases_lt n k)

-- what passes one test passes another
pub count_le_of : (p q : ℕ → Bool) (n : ℕ) → ((i : ℕ) → i < n → p i ≡ true → q i ≡ true) → count p n ≤ count q n
count_le_of p q zero h = omega arith
count_le_of p q (suc n) h = step (p n) (q n) (h n (omega arith)) (count_le_of p q n (λ i l. h i (omega arith)))
  where
    step : (a b : Bool) {x y : ℕ} → (a ≡ true → b ≡ true) → x ≤ y → cond a (suc x) x ≤ cond b (suc y) y
    step true true w r = omega arith
    step true false w r = absurd (false≢true (w refl))
    step false true w r = omega arith
    step false false w r = omega arith
