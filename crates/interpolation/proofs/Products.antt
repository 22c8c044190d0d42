-- Products over the chosen numbers below a bound. Assumes nothing.
use Rattle.std.proofs.Common.{◌≡◌, ℕ, zero, suc, ◌+◌, ◌<◌, Bool, true, false, cond, not, ◌&&◌, ◌||◌, eqb, sym, refl, ap, ◌∙◌, ap₂, ⊎_elim, add-one, arith, lit<}
use Rattle.std.proofs.lemmas.Bool.{cases_eq, cond-true, cond-false, eq-eqb, eqb-true, ne_eqb, and_right, not_from_true, false≢true}
use Rattle.std.proofs.Math.Bool.{and-true}
use Rattle.block.specs.Count.{count}
use Rattle.block.proofs.Counts.{count_same, count_one, count_or}
use Rattle.field.specs.Field.{mul}
use Rattle.field.specs.Sums.{multiplied}
use Rattle.field.proofs.Laws.{mul_comm, mul_assoc, mul_zero, zero_mul}
use Rattle.recovery.proofs.Nonzero.{Nonzero, mul_nonzero}

-- the chosen numbers but one
abbrev pub without : (ℕ → Bool) → ℕ → ℕ → Bool
without chosen a j = chosen j && not (eqb j a)

pub without_itself : (chosen : ℕ → Bool) (a j : ℕ) → j ≡ a → without chosen a j ≡ false
without_itself chosen a j e = and_right (chosen j) _ (not_from_true (eqb j a) (eq-eqb j a e))

pub without_other : (chosen : ℕ → Bool) (a j : ℕ) → (j ≡ a → ⊥) → without chosen a j ≡ chosen j
without_other chosen a j ne = ap (λ b. chosen j && not b) (ne_eqb j a ne) ∙ and-true (chosen j)

-- one number more, chosen or not
pub multiplied_more : (chosen : ℕ → Bool) (f : ℕ → ℕ) (n : ℕ) → chosen n ≡ true → multiplied chosen f (n + 1) ≡ mul (multiplied chosen f n) (f n)
unfolding multiplied
multiplied_more chosen f n t = rw add-one (cond-true (chosen n) _ _ t)

pub multiplied_skip : (chosen : ℕ → Bool) (f : ℕ → ℕ) (n : ℕ) → chosen n ≡ false → multiplied chosen f (n + 1) ≡ multiplied chosen f n
unfolding multiplied
multiplied_skip chosen f n t = rw add-one (cond-false (chosen n) _ _ t)

pub multiplied_same : (p q : ℕ → Bool) (f : ℕ → ℕ) (n : ℕ) → ((i : ℕ) → i < n → p i ≡ q i) → multiplied p f n ≡ multiplied q f n
unfolding multiplied
multiplied_same p q f zero h = refl
multiplied_same p q f (suc n) h =
    ap₂ (λ b x. cond b (mul x (f n)) x) (h n (omega arith)) (multiplied_same p q f n (λ i l. h i (omega arith)))

pub multiplied_zero : (chosen : ℕ → Bool) (f : ℕ → ℕ) (n a : ℕ) → a < n → chosen a ≡ true → f a ≡ 0 → multiplied chosen f n ≡ 0
unfolding multiplied
multiplied_zero chosen f zero a l t z = absurd (omega arith)
multiplied_zero chosen f (suc n) a l t z =
    ⊎_elim
    (λ (e : n ≡ a). cond-true (chosen n) _ _ (ap chosen e ∙ t) ∙ ap (mul (multiplied chosen f n)) (ap f e ∙ z) ∙ mul_zero _)
    (λ (ne : n ≡ a → ⊥).
    let below : multiplied chosen f n ≡ 0 = multiplied_zero chosen f n a (omega arith) t z in
    elim (chosen n) as (λ b. cond b (mul (multiplied chosen f n) (f n)) (multiplied chosen f n) ≡ 0)
    [ true ↦ ap (λ x. mul x (f n)) below ∙ zero_mul (f n) | false ↦ below ])
    (cases_eq n a)

pub multiplied_nonzero : (chosen : ℕ → Bool) (f : ℕ → ℕ) (n : ℕ) → ((i : ℕ) → i < n → chosen i ≡ true → Nonzero (f i)) → Nonzero (multiplied chosen f n)
unfolding multiplied
multiplied_nonzero chosen f zero h = (lit< tt, lit< tt)
multiplied_nonzero chosen f (suc n) h =
    let below : Nonzero (multiplied chosen f n) = multiplied_nonzero chosen f n (λ i l. h i (omega arith)) in
    (elim (chosen n) as (λ b. (b ≡ true → Nonzero (f n)) → Nonzero (cond b (mul (multiplied chosen f n) (f n)) (multiplied chosen f n)))
    [ true ↦ λ k. mul_nonzero _ _ below (k refl) | false ↦ λ k. below ]) (h n (omega arith))

module _ (chosen : ℕ → Bool) (a : ℕ) (t : chosen a ≡ true) where
  -- one factor taken out
  pub multiplied_out : (f : ℕ → ℕ) (n : ℕ) → a < n → multiplied chosen f n ≡ mul (f a) (multiplied (without chosen a) f n)
  unfolding multiplied
  multiplied_out f zero l = absurd (omega arith)
  multiplied_out f (suc n) l =
      ⊎_elim
      (λ (e : n ≡ a). cond-true (chosen n) _ _ (ap chosen e ∙ t) ∙ mul_comm _ _
      ∙ ap₂ mul (ap f e) (multiplied_same chosen (without chosen a) f n (λ i k. sym (without_other chosen a i (λ q. omega arith)))
      ∙ sym (cond-false (without chosen a n) _ _ (without_itself chosen a n e))))
      (λ (ne : n ≡ a → ⊥).
      let below : multiplied chosen f n ≡ mul (f a) (multiplied (without chosen a) f n) = multiplied_out f n (omega arith) in
      (elim (chosen n) as (λ b. cond b (mul (multiplied chosen f n) (f n)) (multiplied chosen f n)
      ≡ mul (f a) (cond b (mul (multiplied (without chosen a) f n) (f n)) (multiplied (without chosen a) f n)))
      [ true ↦ ap (λ x. mul x (f n)) below ∙ mul_assoc _ _ _ | false ↦ below ])
      ∙ ap (λ b. mul (f a) (cond b (mul (multiplied (without chosen a) f n) (f n)) (multiplied (without chosen a) f n))) (sym (without_other chosen a n ne)))
      (cases_eq n a)

  pub count_out : (n : ℕ) → a < n → count chosen n ≡ suc (count (without chosen a) n)
  count_out n l =
      count_same chosen (λ i. eqb i a || without chosen a i) n
      (λ i k. ⊎_elim
      (λ (e : i ≡ a). ap chosen e ∙ t ∙ sym (ap (λ b. b || without chosen a i) (eq-eqb i a e)))
      (λ (ne : i ≡ a → ⊥). sym (ap (λ b. b || without chosen a i) (ne_eqb i a ne) ∙ without_other chosen a i ne)) (cases_eq i a))
      ∙ count_or (λ i. eqb i a) (without chosen a) (λ i e w. false≢true (sym (without_itself chosen a i (eqb-true i a e)) ∙ w)) n
      ∙ ap (λ x. x + count (without chosen a) n) (count_one a n l) ∙ omega arith
