-- Copies and the sum: k bytes give the others back. Assumes nothing.
use Rattle.std.proofs.Common.{◌≡◌, ℕ, zero, suc, ◌+◌, ◌<◌, Bool, true, false, cond, not, eqb, sym, refl, ap, ◌∙◌, ap₂, ⊎_elim, add-one, arith}
use lib.Bits.{bit_xor, xor_self, xor_comm}
use Rattle.std.proofs.lemmas.Bool.{cases_Bool, eq-eqb, ne_eqb, not_from_false, not-true}
use Rattle.field.specs.Field.{mul}
use Rattle.field.specs.Sums.{summed}
use Rattle.field.proofs.Laws.{mul_one, mul_zero}
use Rattle.block.specs.Count.{count}
use Rattle.block.proofs.Counts.{count_only, count_not}
use Rattle.recovery.specs.Recovers.{Recovers, ByteWord, recovered}
use Rattle.recovery.specs.Rules.{every, copy_rule, sum_rule}
use Rattle.recovery.specs.Weights.{copy_weight, sum_weight}
use Rattle.recovery.proofs.Sums.{summed_same, summed_one, summed_at, summed_split}
use Rattle.recovery.proofs.Nonzero.{xor_equal}

pub copy_recovers : (m : ℕ) → Recovers 1 m copy_rule copy_weight
copy_recovers m = record {
  has = λ chosen n v c l t b.
      summed_one chosen _ (v c) (1 + m) n
      (λ i li ti. ap (λ x. mul (v x) 1) (count_only chosen (1 + m) n i c li l ti t) ∙ mul_one (v c) b);
  obeys = λ chosen n v e l. refl;
  gives = λ chosen n w word c l.
      summed_one chosen _ (w c) (1 + m) n
      (λ i li ti. mul_one (w i) (word.bytes i li) ∙ all_same w word i li ∙ sym (all_same w word c l));
}
  where
    all_same : (w : ℕ → ℕ) → ByteWord 1 m copy_rule w → (i : ℕ) → i < 1 + m → w i ≡ w 0
    all_same w word zero l = refl
    all_same w word (suc i) l = let q : suc i ≡ 1 + i = omega arith in ap w q ∙ word.checks i (omega arith)

module _ (k : ℕ) (chosen : ℕ → Bool) (enough : count chosen (k + 1) ≡ k) where
  one_left : count (λ i. not (chosen i)) (k + 1) ≡ 1
  one_left = omega (arith, count_not chosen (k + 1))

  module _ (v : ℕ → ℕ) where
    total : ℕ
    total = summed chosen (λ i. mul (v i) 1) (k + 1)

    at_chosen : (c : ℕ) → c < k + 1 → chosen c ≡ true → recovered sum_weight (k + 1) chosen v c ≡ mul (v c) 1
    at_chosen c l t =
        ap (λ b. summed chosen (λ i. mul (v i) (cond b (cond (eqb c i) 1 0) 1)) (k + 1)) t
        ∙ summed_at chosen (λ i. mul (v i) (cond (eqb c i) 1 0)) (k + 1) c l t
        (λ i li ti ne. ap (λ b. mul (v i) (cond b 1 0)) (ne_eqb c i (λ q. ne (sym q))) ∙ mul_zero (v i))
        ∙ ap (λ b. mul (v c) (cond b 1 0)) (eq-eqb c c refl)

    at_other : (c : ℕ) → chosen c ≡ false → recovered sum_weight (k + 1) chosen v c ≡ total
    unfolding total
    at_other c t = ap (λ b. summed chosen (λ i. mul (v i) (cond b (cond (eqb c i) 1 0) 1)) (k + 1)) t

    -- all the bytes together
    all_zero : summed every (recovered sum_weight (k + 1) chosen v) (k + 1) ≡ 0
    unfolding total
    all_zero =
        summed_split chosen (recovered sum_weight (k + 1) chosen v) (k + 1)
        ∙ ap₂ bit_xor
        (summed_same chosen _ (λ i. mul (v i) 1) (k + 1) at_chosen)
        (summed_one (λ i. not (chosen i)) _ total (k + 1) one_left (λ i l t. at_other i (not-true (chosen i) t)))
        ∙ xor_self total

  -- a byte of a word that is not chosen is the sum of the others
  other_of_word : (w : ℕ → ℕ) → ByteWord k 1 (sum_rule k) w → summed every w (k + 1) ≡ 0 → (c : ℕ) → c < k + 1 → chosen c ≡ false → total w ≡ w c
  unfolding total
  other_of_word w word zeros c l t =
      summed_same chosen _ w (k + 1) (λ i li ti. mul_one (w i) (word.bytes i li))
      ∙ xor_equal _ (w c)
      (ap (bit_xor (summed chosen w (k + 1)))
      (sym (summed_one (λ i. not (chosen i)) w (w c) (k + 1) one_left
      (λ i li ti. ap w (count_only (λ i. not (chosen i)) (k + 1) one_left i c li l ti (not_from_false (chosen c) t)))))
      ∙ sym (summed_split chosen w (k + 1)) ∙ zeros)

-- the data and the check together
with_check : (f : ℕ → ℕ) (k : ℕ) → summed every f (k + 1) ≡ bit_xor (summed every f k) (f k)
unfolding summed
with_check f k = rw add-one

at_zero : (k e : ℕ) → e < 1 → k + e ≡ k
at_zero k e l = omega arith

pub sum_recovers : (k : ℕ) → Recovers k 1 (sum_rule k) sum_weight
sum_recovers k = record {
  has = λ chosen n v c l t b. at_chosen k chosen n v c l t ∙ mul_one (v c) b;
  obeys = λ chosen n v e l.
      let r = recovered sum_weight (k + 1) chosen v in
      ap r (at_zero k e l) ∙ xor_equal (r k) (summed every r k) (xor_comm (r k) _ ∙ sym (with_check r k) ∙ all_zero k chosen n v);
  gives = λ chosen n w word c l.
      let zeros = with_check w k ∙ ap (bit_xor (summed every w k)) (ap w (sym (at_zero k 0 (omega arith))) ∙ word.checks 0 (omega arith)) ∙ xor_self (summed every w k) in
      ⊎_elim (λ t. at_chosen k chosen n w c l t ∙ mul_one (w c) (word.bytes c l))
      (λ t. at_other k chosen n w c t ∙ other_of_word k chosen n w word zeros c l t) (cases_Bool (chosen c));
}
