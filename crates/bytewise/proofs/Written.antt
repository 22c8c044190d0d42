-- What the loops write is what the code's completion says. Assumes nothing.
use Rattle.std.proofs.Common.{◌≡◌, ℕ, ◌+◌, ◌*◌, ◌<◌, ◌≤◌, Bool, true, false, not, ◌&&◌, eqb, ltb, List, [], length, get_or, unwrap_or, sym, ap, ◌∙◌, ⊎_elim, arith}
use mathlib.Core.Path.{fun_ext}
use Rattle.std.proofs.lemmas.List.{get_or_past}
use Rattle.std.proofs.lemmas.Bool.{cases_lt}
use Rattle.block.specs.Count.{count}
use Rattle.block.proofs.Bytes.{same_block}
use Rattle.field.specs.Field.{mul}
use Rattle.field.specs.Sums.{summed}
use Rattle.recovery.specs.Rules.{every}
use Rattle.recovery.proofs.Sums.{summed_same}
use Rattle.code.specs.Word.{lowest}
use Rattle.code.specs.Calls.{block_at, first, marks_held, marked}
use Rattle.code.proofs.Blocks.{block_byte, first_blocks, first_count, first_at, lowest_held, lowest_at}
use Rattle.code.proofs.Lowest.{among_lowest}
use Rattle.bytewise.specs.Words.{Recipe, Works, held, column, completed}
use Rattle.bytewise.proofs.Law.{completed_size, completed_at, completed_word, completed_has}

module _ (r : Recipe) (works : Works r) (given : List ℕ) (long : length given ≡ r.k * 64) (small : (j : ℕ) → get_or given j 0 < 256) where
  first_is : (d : ℕ) → d < r.k → completed r (first r.k given) d ≡ block_at given d
  first_is d l =
      completed_has r (first r.k given) works.recovers (first_count r.k r.m given) (first_blocks r.k (r.k + r.m) given (omega arith) small)
      d (block_at given d) (omega arith) (first_at r.k given d l)

  -- the sum of the data, each times its coefficient, is the check of their word
  pub check_written : (e : ℕ) → e < r.m → (out : List ℕ) → length out ≡ 64
      → ((j : ℕ) → j < 64 → get_or out j 0 ≡ summed every (λ d. mul (get_or given (d * 64 + j) 0) (r.coefficient e d)) r.k)
      → out ≡ completed r (first r.k given) (r.k + e)
  check_written e l out size bytes =
      let h = first r.k given in
      let word = completed_word r h works.recovers (first_count r.k r.m given) in
      same_block out (completed r h (r.k + e)) size (completed_size r h (r.k + e))
      (λ j lj. bytes j lj
      ∙ sym ((word.columns j lj).checks e l
      ∙ works.sums e (λ d. get_or (completed r h d) j 0) l (λ d ld. (word.columns j lj).bytes d (omega arith))
      ∙ summed_same every _ _ r.k
      (λ d ld t. ap (λ x. mul x (r.coefficient e d)) (ap (λ b. get_or b j 0) (first_is d ld) ∙ block_byte given d j lj))))

-- the flags of the k lowest held blocks
module _ (k n : ℕ) (marks blocks : List ℕ) (chosen : List Bool) (long : length marks ≡ n) (flags : length chosen ≡ n)
    (are : (i : ℕ) → i < n → get_or chosen i false ≡ among_lowest k (marks_held marks) i) where
  chosen_are : (i : ℕ) → get_or chosen i false ≡ among_lowest k (marks_held marks) i
  chosen_are i =
      ⊎_elim (are i)
      (λ (l : n ≤ i). get_or_past chosen i false (omega arith)
      ∙ sym (ap (λ x. not (eqb x 0) && ltb (count (marks_held marks) i) k) (get_or_past marks i 0 (omega arith)))) (cases_lt i n)

  flags_held : held (lowest k (marked marks blocks)) ≡ (λ i. get_or chosen i false)
  flags_held = fun_ext (λ i. lowest_held k marks blocks i ∙ sym (chosen_are i))

  flags_column : (i j : ℕ) → j < 64 → get_or chosen i false ≡ true → column (lowest k (marked marks blocks)) j i ≡ get_or blocks (i * 64 + j) 0
  flags_column i j l t =
      ap (λ o. get_or (unwrap_or o []) j 0) (lowest_at k marks blocks i (sym (chosen_are i) ∙ t)) ∙ block_byte blocks i j l

-- the sum of the chosen blocks, each times its weight, is the block of their word
pub rebuild_written : (r : Recipe) (marks blocks : List ℕ) (chosen : List Bool) → length marks ≡ r.k + r.m → length chosen ≡ r.k + r.m
    → ((i : ℕ) → i < r.k + r.m → get_or chosen i false ≡ among_lowest r.k (marks_held marks) i)
    → (c : ℕ) (out : List ℕ) → length out ≡ 64
    → ((j : ℕ) → j < 64 → get_or out j 0 ≡ summed (λ i. get_or chosen i false) (λ i. mul (get_or blocks (i * 64 + j) 0) (r.weight (λ i. get_or chosen i false) c i)) (r.k + r.m))
    → out ≡ completed r (lowest r.k (marked marks blocks)) c
rebuild_written r marks blocks chosen long flags are c out size bytes =
    let n = r.k + r.m in
    let h = lowest r.k (marked marks blocks) in
    let test : ℕ → Bool = λ i. get_or chosen i false in
    same_block out (completed r h c) size (completed_size r h c)
    (λ j lj. bytes j lj
    ∙ sym (completed_at r h c j lj
    ∙ ap (λ (p : ℕ → Bool). summed p (λ i. mul (column h j i) (r.weight p c i)) n) (flags_held r.k n marks blocks chosen long flags are)
    ∙ summed_same test _ _ n
    (λ i li t. ap (λ x. mul x (r.weight test c i)) (flags_column r.k n marks blocks chosen long flags are i j lj t))))
