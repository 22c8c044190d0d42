-- Blocks that lie one after the other: the first k of them, and the k lowest that marks leave. Assumes nothing.
use Rattle.std.proofs.Common.{◌≡◌, ℕ, ◌+◌, ◌*◌, ◌<◌, ◌≤◌, Bool, true, cond, ◌&&◌, ltb, List, [], length, get_or, drop, is_some, Some, None, unwrap_or, sym, ap, ◌∙◌, subst, ap₂, arith}
use Rattle.std.proofs.lemmas.List.{get_or-take, get_or-drop, length-drop, length-take-le}
use Rattle.std.proofs.lemmas.Bool.{lt-ltb, ltb-true, and_parts, cond-true}
use Rattle.block.specs.Block.{Block, IsBlock}
use Rattle.block.specs.Count.{count}
use Rattle.block.proofs.Bytes.{all_bytes}
use Rattle.block.proofs.Counts.{count_same, count_below}
use Rattle.code.specs.Word.{AllBlocks, lowest, count_held}
use Rattle.code.specs.Calls.{block_at, first, marks_held, marked}
use Rattle.code.proofs.Law.{some_if}
use Rattle.code.proofs.Lowest.{some_under, among_lowest, held_lowest, count_lowest_held}

-- a byte of a block among others
pub block_byte : (bytes : List ℕ) (i j : ℕ) → j < 64 → get_or (block_at bytes i) j 0 ≡ get_or bytes (i * 64 + j) 0
block_byte bytes i j l = get_or-take 64 (drop (i * 64) bytes) j 0 l ∙ get_or-drop (i * 64) bytes j 0

pub block_size : (bytes : List ℕ) (i n : ℕ) → i < n → n * 64 ≤ length bytes → length (block_at bytes i) ≡ 64
block_size bytes i n l room = length-take-le 64 (drop (i * 64) bytes) (simp length-drop (omega arith))

pub is_block : (bytes : List ℕ) (i n : ℕ) → i < n → n * 64 ≤ length bytes → ((j : ℕ) → get_or bytes j 0 < 256) → IsBlock (block_at bytes i)
is_block bytes i n l room small =
    let size = block_size bytes i n l room in
    record {
      size = size;
      bytes = all_bytes (block_at bytes i) (λ j h. subst (λ x. x < 256) (sym (block_byte bytes i j (omega (arith, size)))) (small (i * 64 + j)));
    }

-- the first k
pub first_blocks : (k n : ℕ) (bytes : List ℕ) → k * 64 ≤ length bytes → ((j : ℕ) → get_or bytes j 0 < 256) → AllBlocks n (first k bytes)
first_blocks k n bytes room small i b l e =
    let s = some_if (ltb i k) (block_at bytes i) b e in
    subst IsBlock s.1 (is_block bytes i k (ltb-true i k s.0) room small)

pub first_count : (k m : ℕ) (bytes : List ℕ) → count_held (first k bytes) (k + m) ≡ k
first_count k m bytes =
    count_same _ (λ i. ltb i k) (k + m) (λ i l. some_under (ltb i k) (Some (block_at bytes i))) ∙ count_below k (k + m) (omega arith)

pub first_at : (k : ℕ) (bytes : List ℕ) (i : ℕ) → i < k → first k bytes i ≡ Some (block_at bytes i)
first_at k bytes i l = cond-true (ltb i k) _ _ (lt-ltb i k l)

-- two tests in a row
both_if : (a b : Bool) (x : Block) → (b && a) ≡ true → cond a (cond b (Some x) None) None ≡ Some x
both_if a b x t =
    let s = and_parts b a t in
    cond-true a _ _ s.1 ∙ cond-true b _ _ s.0

module _ (k : ℕ) (marks bytes : List ℕ) where
  pub counts_marked : (i : ℕ) → count_held (marked marks bytes) i ≡ count (marks_held marks) i
  counts_marked i = count_same _ (marks_held marks) i (λ x l. some_under (marks_held marks x) (Some (block_at bytes x)))

  pub lowest_held : (i : ℕ) → is_some (lowest k (marked marks bytes) i) ≡ among_lowest k (marks_held marks) i
  lowest_held i =
      held_lowest k (marked marks bytes) i
      ∙ ap₂ (λ t x. t && ltb x k) (some_under (marks_held marks i) (Some (block_at bytes i))) (counts_marked i)

  pub lowest_at : (i : ℕ) → among_lowest k (marks_held marks) i ≡ true → lowest k (marked marks bytes) i ≡ Some (block_at bytes i)
  lowest_at i t =
      both_if (ltb (count_held (marked marks bytes) i) k) (marks_held marks i) (block_at bytes i)
      (ap (λ x. marks_held marks i && ltb x k) (counts_marked i) ∙ t)

  -- what is held among the lowest was marked as held, and is the block there
  pub lowest_some : (i : ℕ) (b : Block) → lowest k (marked marks bytes) i ≡ Some b → (marks_held marks i ≡ true) × (block_at bytes i ≡ b)
  lowest_some i b e =
      let t = sym (lowest_held i) ∙ ap is_some e in
      ((and_parts (marks_held marks i) _ t).0, ap (λ o. unwrap_or o []) (sym (lowest_at i t) ∙ e))

  pub lowest_count : (n : ℕ) → k ≤ count (marks_held marks) n → count_held (lowest k (marked marks bytes)) n ≡ k
  lowest_count n enough = count_lowest_held k (marked marks bytes) n (subst (λ x. k ≤ x) (sym (counts_marked n)) enough)
