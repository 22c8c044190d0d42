-- Sums over the chosen numbers below a bound. Assumes nothing.
use Rattle.std.proofs.Common.{◌≡◌, ℕ, zero, suc, ◌+◌, ◌<◌, Bool, true, false, cond, not, sym, refl, ap, ◌∙◌, ap₂, ⊎_elim, add-one, arith, lit<}
use lib.Bits.{bit_xor, xor_assoc, xor_comm, xor_zero_r, xor_lt}
use Rattle.std.proofs.lemmas.Bool.{cases_eq, cond-true, cond-false}
use Rattle.field.specs.Field.{mul}
use Rattle.field.specs.Sums.{summed}
use Rattle.field.proofs.Laws.{mul_zero}
use Rattle.field.proofs.Linear.{mul_xor_right}
use Rattle.block.specs.Count.{count}
use Rattle.block.proofs.Counts.{count_some}
use Rattle.recovery.specs.Rules.{every}

module _ (chosen : ℕ → Bool) where
  -- one number more, chosen or not
  pub summed_more : (f : ℕ → ℕ) (n : ℕ) → chosen n ≡ true → summed chosen f (n + 1) ≡ bit_xor (summed chosen f n) (f n)
  unfolding summed
  summed_more f n t = rw add-one (cond-true (chosen n) _ _ t)

  pub summed_skip : (f : ℕ → ℕ) (n : ℕ) → chosen n ≡ false → summed chosen f (n + 1) ≡ summed chosen f n
  unfolding summed
  summed_skip f n t = rw add-one (cond-false (chosen n) _ _ t)

  pub summed_same : (f g : ℕ → ℕ) (n : ℕ) → ((i : ℕ) → i < n → chosen i ≡ true → f i ≡ g i) → summed chosen f n ≡ summed chosen g n
  unfolding summed
  summed_same f g zero h = refl
  summed_same f g (suc n) h =
      let ih = summed_same f g n (λ i l. h i (omega arith)) in
      (elim (chosen n) as (λ b. (b ≡ true → f n ≡ g n) → cond b (bit_xor (summed chosen f n) (f n)) (summed chosen f n) ≡ cond b (bit_xor (summed chosen g n) (g n)) (summed chosen g n))
      [ true ↦ λ e. ap₂ bit_xor ih (e refl) | false ↦ λ e. ih ]) (h n (omega arith))

  pub summed_byte : (f : ℕ → ℕ) (n : ℕ) → ((i : ℕ) → i < n → f i < 256) → summed chosen f n < 256
  unfolding summed
  summed_byte f zero h = lit< tt
  summed_byte f (suc n) h =
      let ih = summed_byte f n (λ i l. h i (omega arith)) in
      elim (chosen n) as (λ b. cond b (bit_xor (summed chosen f n) (f n)) (summed chosen f n) < 256)
      [ true ↦ xor_lt 8 _ _ ih (h n (omega arith)) | false ↦ ih ]

  pub summed_zero : (f : ℕ → ℕ) (n : ℕ) → ((i : ℕ) → i < n → chosen i ≡ true → f i ≡ 0) → summed chosen f n ≡ 0
  unfolding summed
  summed_zero f zero h = refl
  summed_zero f (suc n) h =
      let ih = summed_zero f n (λ i l. h i (omega arith)) in
      (elim (chosen n) as (λ b. (b ≡ true → f n ≡ 0) → cond b (bit_xor (summed chosen f n) (f n)) (summed chosen f n) ≡ 0)
      [ true ↦ λ e. ap₂ bit_xor ih (e refl) | false ↦ λ e. ih ]) (h n (omega arith))

  -- a sum of nothing
  pub summed_none : (f : ℕ → ℕ) (n : ℕ) → count chosen n ≡ 0 → summed chosen f n ≡ 0
  summed_none f n c = summed_zero f n (λ i l t. absurd (omega (arith, count_some chosen n i l t)))

  -- a sum of one
  pub summed_one : (f : ℕ → ℕ) (x n : ℕ) → count chosen n ≡ 1 → ((i : ℕ) → i < n → chosen i ≡ true → f i ≡ x) → summed chosen f n ≡ x
  unfolding summed
  summed_one f x zero c h = absurd (omega arith)
  summed_one f x (suc n) c h =
      (elim (chosen n) as (λ b. (b ≡ true → f n ≡ x) → cond b (suc (count chosen n)) (count chosen n) ≡ 1 → cond b (bit_xor (summed chosen f n) (f n)) (summed chosen f n) ≡ x) [
        | true ↦ λ e d. ap₂ bit_xor (summed_none f n (omega arith)) (e refl)
        | false ↦ λ e d. summed_one f x n d (λ i l. h i (omega arith))
      ]) (h n (omega arith)) c

  -- where all terms but one are 0
  pub summed_at : (f : ℕ → ℕ) (n a : ℕ) → a < n → chosen a ≡ true
      → ((i : ℕ) → i < n → chosen i ≡ true → (i ≡ a → ⊥) → f i ≡ 0) → summed chosen f n ≡ f a
  unfolding summed
  summed_at f zero a l t h = absurd (omega arith)
  summed_at f (suc n) a l t h =
      ⊎_elim
      (λ (e : n ≡ a). cond-true (chosen n) _ _ (ap chosen e ∙ t)
      ∙ ap₂ bit_xor (summed_zero f n (λ i k c. h i (omega arith) c (λ q. omega arith))) (ap f e))
      (λ (ne : n ≡ a → ⊥).
      let below : summed chosen f n ≡ f a = summed_at f n a (omega arith) t (λ i k. h i (omega arith)) in
      (elim (chosen n) as (λ b. (b ≡ true → f n ≡ 0) → cond b (bit_xor (summed chosen f n) (f n)) (summed chosen f n) ≡ f a)
      [ true ↦ λ e. ap (bit_xor (summed chosen f n)) (e refl) ∙ xor_zero_r _ ∙ below | false ↦ λ e. below ]) (λ c. h n (omega arith) c ne))
      (cases_eq n a)

  -- a factor taken out
  pub summed_times : (a : ℕ) (f : ℕ → ℕ) (n : ℕ) → summed chosen (λ i. mul a (f i)) n ≡ mul a (summed chosen f n)
  unfolding summed
  summed_times a f zero = sym (mul_zero a)
  summed_times a f (suc n) =
      elim (chosen n) as (λ b. cond b (bit_xor (summed chosen (λ i. mul a (f i)) n) (mul a (f n))) (summed chosen (λ i. mul a (f i)) n)
      ≡ mul a (cond b (bit_xor (summed chosen f n) (f n)) (summed chosen f n)))
      [ true ↦ ap (λ x. bit_xor x (mul a (f n))) (summed_times a f n) ∙ sym (mul_xor_right a _ _) | false ↦ summed_times a f n ]

  -- what is chosen and what is not
  pub summed_split : (f : ℕ → ℕ) (n : ℕ) → summed every f n ≡ bit_xor (summed chosen f n) (summed (λ i. not (chosen i)) f n)
  unfolding summed
  summed_split f zero = refl
  summed_split f (suc n) =
      let a = summed chosen f n in
      let b = summed (λ i. not (chosen i)) f n in
      ap (λ x. bit_xor x (f n)) (summed_split f n)
      ∙ (elim (chosen n) as (λ t. bit_xor (bit_xor a b) (f n) ≡ bit_xor (cond t (bit_xor a (f n)) a) (cond (not t) (bit_xor b (f n)) b))
      [ true ↦ xor_assoc a b (f n) ∙ ap (bit_xor a) (xor_comm b (f n)) ∙ sym (xor_assoc a (f n) b) | false ↦ xor_assoc a b (f n) ])
