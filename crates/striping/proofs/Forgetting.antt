-- Forgetting the missing blocks of a stripe, block by block. Assumes nothing.
use Rattle.std.proofs.Common.{◌≡◌, ℕ, ◌+◌, ◌*◌, ◌<◌, ◌≤◌, ◌⊎◌, true, false, List, length, get_or, replicate, inl, inr, sym, ap, ◌∙◌, ⊎_elim, arith}
use borrow.Rule.Slice.PartMut.{put_mid}
use Rattle.std.proofs.lemmas.List.{get_or-replicate, length-replicate}
use Rattle.std.proofs.lemmas.Bool.{cases_eq, false≢true}
use Rattle.code.specs.Calls.{block_at, marks_held}
use Rattle.code.proofs.Marks.{mark_held, mark_missing}
use Rattle.code.proofs.Parts.{block_here, block_other}

-- of the blocks below n the missing ones are zeros; all others are as they were
pub record Forgot (marks was is : List ℕ) (n : ℕ) : Type 0 where
  pub kept : (i : ℕ) → (marks_held marks i ≡ true) ⊎ (n ≤ i) → block_at is i ≡ block_at was i
  pub gone : (i j : ℕ) → i < n → j < 64 → marks_held marks i ≡ false → get_or (block_at is i) j 0 ≡ 0

module _ (marks was old : List ℕ) (i : ℕ) (so_far : Forgot marks was old i) where
  -- zeros are put at a missing block
  pub forget_put : (w size : ℕ) (zeros : List ℕ) → zeros ≡ replicate size 0 → size ≡ 64 → w ≡ 64 → i * 64 ≤ length old → get_or marks i 0 ≡ 0
      → Forgot marks was (put_mid (i * 64) w old zeros) (i + 1)
  forget_put w size zeros zero small wide room mark =
      let missing = mark_missing marks i mark in
      let are : zeros ≡ replicate 64 0 = zero ∙ ap (λ n. replicate n 0) small in
      let long : length zeros ≡ 64 = ap length are ∙ length-replicate {A = ℕ} 64 0 in
      let other = block_other i w old zeros room long wide in
      record {
        kept = λ x h. other x (λ e. ⊎_elim (λ (t : marks_held marks x ≡ true). false≢true (sym missing ∙ ap (marks_held marks) (sym e) ∙ t)) (λ (l : i + 1 ≤ x). omega arith) h)
            ∙ so_far.kept x (⊎_elim inl (λ (l : i + 1 ≤ x). inr (omega arith)) h);
        gone = λ x j l lj t.
            ⊎_elim (λ (e : x ≡ i). ap (λ y. get_or (block_at (put_mid (i * 64) w old zeros) y) j 0) e ∙ ap (λ b. get_or b j 0) (block_here i w old zeros room long ∙ are) ∙ get_or-replicate 64 j 0 0 lj)
            (λ (ne : x ≡ i → ⊥). ap (λ b. get_or b j 0) (other x ne) ∙ so_far.gone x j (omega arith) lj t) (cases_eq x i);
      }

  -- a held block is passed over
  pub forget_skip : (get_or marks i 0 ≡ 0 → ⊥) → Forgot marks was old (i + 1)
  forget_skip mark =
      let held = mark_held marks i mark in
      record {
        kept = λ x h. so_far.kept x (⊎_elim inl (λ (l : i + 1 ≤ x). inr (omega arith)) h);
        gone = λ x j l lj t.
            ⊎_elim (λ (e : x ≡ i). absurd (false≢true (sym t ∙ ap (marks_held marks) e ∙ held)))
            (λ (ne : x ≡ i → ⊥). so_far.gone x j (omega arith) lj t) (cases_eq x i);
      }
