-- The law of a code from that of its bytes. Assumes nothing.
use Rattle.std.proofs.Common.{◌≡◌, ℕ, ◌+◌, ◌<◌, [], length, get_or, is_some, unwrap_or, sym, ap, ◌∙◌, subst, zero-add}
use mathlib.Core.Path.{fun_ext}
use Rattle.std.proofs.lemmas.List.FromFn.{get_or-map-range_with_len, length-map-range_with_len}
use Rattle.block.specs.Block.{Blocks, Held, IsBlock}
use Rattle.block.specs.Count.{count}
use Rattle.block.proofs.Bytes.{same_block, all_bytes}
use Rattle.field.specs.Field.{mul}
use Rattle.field.proofs.Laws.{mul_byte}
use Rattle.recovery.specs.Recovers.{ByteWord, Recovers, recovered}
use Rattle.recovery.proofs.Sums.{summed_same, summed_byte}
use Rattle.code.specs.Word.{Completes, AllBlocks, Has, AnyKBlocksBelongToExactlyOneWord}
use Rattle.code.proofs.Law.{any_k, some_value}
use Rattle.bytewise.specs.Words.{Recipe, Works, WordByBytes, held, column, completed, coded}

module _ (r : Recipe) (h : Held) where
  abbrev byte_at : ℕ → ℕ → ℕ
  byte_at c j = recovered r.weight (r.k + r.m) (held h) (column h j) c

  byte_below : (c j : ℕ) → byte_at c j < 256
  byte_below c j = summed_byte (held h) _ (r.k + r.m) (λ i l. mul_byte _ _)

  pub completed_size : (c : ℕ) → length (completed r h c) ≡ 64
  completed_size c = length-map-range_with_len (byte_at c) 0 64

  pub completed_at : (c j : ℕ) → j < 64 → get_or (completed r h c) j 0 ≡ byte_at c j
  completed_at c j l = get_or-map-range_with_len (byte_at c) 0 64 j j 0 l (zero-add j)

  completed_block : (c : ℕ) → IsBlock (completed r h c)
  completed_block c = record {
    size = completed_size c;
    bytes = all_bytes (completed r h c) (λ j l. subst (λ x. x < 256) (sym (completed_at c j (subst (λ n. j < n) (completed_size c) l))) (byte_below c j));
  }

  module _ (recovers : Recovers r.k r.m r.rule r.weight) (enough : count (held h) (r.k + r.m) ≡ r.k) where
    pub completed_word : WordByBytes r.k r.m r.rule (completed r h)
    completed_word = record {
      blocks = λ c l. completed_block c;
      columns = λ j lj. subst (ByteWord r.k r.m r.rule) (sym (fun_ext (λ c. completed_at c j lj)))
          (record { bytes = λ c l. byte_below c j; checks = λ e l. recovers.obeys (held h) enough (column h j) e l });
    }

    pub completed_has : AllBlocks (r.k + r.m) h → Has (r.k + r.m) (completed r h) h
    completed_has blocks c b l e =
        let block = blocks c b l e in
        let is : (j : ℕ) → column h j c ≡ get_or b j 0 = λ j. ap (λ o. get_or (unwrap_or o []) j 0) e in
        same_block (completed r h c) b (completed_size c) block.size
        (λ j lj. completed_at c j lj
        ∙ recovers.has (held h) enough (column h j) c l (ap is_some e) (subst (λ x. x < 256) (sym (is j)) (block.bytes j)) ∙ is j)

  -- the bytes of a word that has what is held are what the held bytes give
  pub word_at : Recovers r.k r.m r.rule r.weight → count (held h) (r.k + r.m) ≡ r.k
      → (w : Blocks) → WordByBytes r.k r.m r.rule w → Has (r.k + r.m) w h
      → (c : ℕ) → c < r.k + r.m → w c ≡ completed r h c
  word_at recovers enough w word has c l =
      same_block (w c) (completed r h c) (word.blocks c l).size (completed_size c)
      (λ j lj. sym (recovers.gives (held h) enough (λ c. get_or (w c) j 0) (word.columns j lj) c l)
      ∙ summed_same (held h) _ _ (r.k + r.m)
      (λ i li ti. ap (λ b. mul (get_or b j 0) (r.weight (held h) c i)) (has i (unwrap_or (h i) []) li (some_value (h i) ti)))
      ∙ sym (completed_at c j lj))

pub completes : (r : Recipe) → Recovers r.k r.m r.rule r.weight → Completes (coded r)
completes r recovers = record {
  blocks = λ w i word l. word.blocks i l;
  word = λ h blocks enough. completed_word r h recovers enough;
  has = λ h blocks enough. completed_has r h recovers enough blocks;
}

pub determines : (r : Recipe) → Recovers r.k r.m r.rule r.weight → AnyKBlocksBelongToExactlyOneWord (coded r)
determines r recovers =
    any_k (coded r) (completes r recovers)
    (λ h w v enough ww wv hw hv i l. word_at r h recovers enough w ww hw i l ∙ sym (word_at r h recovers enough v wv hv i l))
