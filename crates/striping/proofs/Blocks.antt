-- Blocks of a stripe, of which some are written. Assumes nothing.
use Rattle.std.proofs.Common.{◌≡◌, ℕ, ◌+◌, ◌-◌, ◌*◌, ◌/◌, ◌%◌, ◌<◌, ◌≤◌, false, cond, ltb, List, length, get_or, take, drop, ◌++◌, length-append, Some, None, sym, ap, ◌∙◌, subst, ⊎_elim, mod-lt, div-add-mod', arith, lit<}
use mathlib.Core.Path.{fun_ext}
use Rattle.std.proofs.lemmas.List.{ext_get_or, length-take, length-take-le, get_or-take, get_or_append_left}
use Rattle.std.proofs.Math.Seq.{drop-append-add}
use Rattle.std.proofs.lemmas.Bool.{cases_lt, cases_eq, cond-false, le-ltb, false≢true}
use Rattle.block.proofs.Bytes.{same_block}
use Rattle.block.specs.Block.{Blocks, Held}
use Rattle.code.specs.Word.{Coding, Completes}
use Rattle.code.specs.Calls.{block_at, first, marks_held}
use Rattle.code.proofs.Blocks.{block_byte, block_size, first_blocks, first_count, first_at}
use Rattle.striping.specs.Stripe.{Stores, Leaves}

-- the first n blocks, where their bytes are the same
pub front_block : (xs ys : List ℕ) (i n : ℕ) → i < n → n * 64 ≤ length xs → n * 64 ≤ length ys
    → ((j : ℕ) → j < n * 64 → get_or xs j 0 ≡ get_or ys j 0) → block_at xs i ≡ block_at ys i
front_block xs ys i n l rx ry h =
    same_block (block_at xs i) (block_at ys i) (block_size xs i n l rx) (block_size ys i n l ry)
    (λ j lj. block_byte xs i j lj ∙ h (i * 64 + j) (omega arith) ∙ sym (block_byte ys i j lj))

-- and their bytes, where the blocks are
pub front_byte : (xs ys : List ℕ) (n : ℕ) → ((i : ℕ) → i < n → block_at xs i ≡ block_at ys i) → (j : ℕ) → j < n * 64 → get_or xs j 0 ≡ get_or ys j 0
front_byte xs ys n h j l =
    let at : j / 64 * 64 + j % 64 ≡ j = div-add-mod' j 64 in
    let small : j % 64 < 64 = mod-lt j (lit< tt) in
    ap (λ x. get_or xs x 0) (sym at) ∙ sym (block_byte xs (j / 64) (j % 64) small)
    ∙ ap (λ b. get_or b (j % 64) 0) (h (j / 64) (omega arith)) ∙ block_byte ys (j / 64) (j % 64) small ∙ ap (λ x. get_or ys x 0) at

-- the first k blocks as held ones, where the blocks are the same
pub same_first : (k : ℕ) (xs ys : List ℕ) → ((i : ℕ) → i < k → block_at xs i ≡ block_at ys i) → first k xs ≡ first k ys
same_first k xs ys h =
    fun_ext (λ i. ⊎_elim (λ (l : i < k). ap (λ b. cond (ltb i k) (Some b) None) (h i l))
    (λ (l : k ≤ i). cond-false (ltb i k) _ _ (le-ltb i k l) ∙ sym (cond-false (ltb i k) _ _ (le-ltb i k l))) (cases_lt i k))

-- the blocks of two parts, where the first is n blocks
module _ (xs ys : List ℕ) (n : ℕ) (long : length xs ≡ n * 64) where
  pub block_left : (i : ℕ) → i < n → block_at (xs ++ ys) i ≡ block_at xs i
  block_left i l =
      front_block (xs ++ ys) xs i n l (omega (arith, length-append xs ys)) (omega arith) (λ j h. get_or_append_left xs ys 0 j (omega arith))

  pub block_right : (i : ℕ) → block_at (xs ++ ys) (n + i) ≡ block_at ys i
  block_right i =
      let at : (n + i) * 64 ≡ length xs + i * 64 = omega arith in
      ap (λ a. take 64 (drop a (xs ++ ys))) at ∙ ap (take 64) (drop-append-add xs ys (i * 64))

-- data and then their checks are the word of what begins with the data
pub laid : (c : Coding) → Completes c → (given checks was rest : List ℕ) → length given ≡ c.k * 64 → length checks ≡ c.m * 64
    → ((j : ℕ) → get_or (given ++ checks) j 0 < 256) → was ≡ given ++ rest → Stores c.m checks (λ e. c.whole (first c.k given) (c.k + e))
    → Stores (c.k + c.m) (given ++ checks) (c.whole (first c.k was))
laid c completes given checks was rest long more small begins written i l =
    let k = c.k in
    let is = given ++ checks in
    let same : (ys : List ℕ) → first k (given ++ ys) ≡ first k given = λ ys. same_first k (given ++ ys) given (block_left given ys k long) in
    let has = completes.has (first k is) (first_blocks k (k + c.m) is (omega (arith, length-append given checks)) small) (first_count k c.m is) in
    ⊎_elim
    (λ (h : i < k). sym (has i (block_at is i) l (first_at k is i h)) ∙ ap (λ f. c.whole f i) (same checks))
    (λ (h : k ≤ i). let q : k + (i - k) ≡ i = omega arith in
    subst (λ x. block_at is x ≡ c.whole (first k given) x) q (block_right given checks k long (i - k) ∙ written (i - k) (omega arith))) (cases_lt i k)
    ∙ ap (λ f. c.whole f i) (sym (ap (first k) begins ∙ same rest))

-- the same data give the same word
pub stored_as : (c : Coding) (n : ℕ) (is : List ℕ) (f h : Held) → f ≡ h → Stores n is (c.whole f) → Stores n is (c.whole h)
stored_as c n is f h e stored i l = stored i l ∙ ap (λ x. c.whole x i) e

-- one more block is that of w
pub one_more : (xs ys : List ℕ) (w : Blocks) (i : ℕ) → ((c : ℕ) → (c ≡ i → ⊥) → block_at ys c ≡ block_at xs c)
    → block_at ys i ≡ w i → Stores i xs w → Stores (i + 1) ys w
one_more xs ys w i others here before x l =
    ⊎_elim (λ (e : x ≡ i). subst (λ y. block_at ys y ≡ w y) (sym e) here)
    (λ (ne : x ≡ i → ⊥). others x ne ∙ before x (omega arith)) (cases_eq x i)

-- what the marks leave does not change where a missing block is written
pub still_left : (marks : List ℕ) (n : ℕ) (xs ys : List ℕ) (w : Blocks) (i : ℕ) → marks_held marks i ≡ false
    → ((c : ℕ) → (c ≡ i → ⊥) → block_at ys c ≡ block_at xs c) → Leaves marks n xs w → Leaves marks n ys w
still_left marks n xs ys w i missing others left x l t =
    others x (λ e. false≢true (sym missing ∙ ap (marks_held marks) (sym e) ∙ t)) ∙ left x l t

-- the front of a buffer that has a part at its start
pub front_part : (xs part : List ℕ) → length part ≤ length xs → ((j : ℕ) → j < length part → get_or xs j 0 ≡ get_or part j 0) → take (length part) xs ≡ part
front_part xs part room h =
    ext_get_or 0 (take (length part) xs) part (length-take-le (length part) xs room)
    (λ j l. let lp : j < length part = omega (arith, simp length-take at l) in get_or-take (length part) xs j 0 lp ∙ h j lp)
