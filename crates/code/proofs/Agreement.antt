-- Two words that have the same k blocks are the same, and a rebuild from what is left of a word gives the word.
-- Assumes nothing.
use Rattle.std.proofs.Common.{◌≡◌, ℕ, zero, suc, ◌+◌, ◌<◌, ◌≤◌, Bool, true, false, cond, List, [], ◌∷◌, length, is_some, Some, unwrap_or, sym, refl, ap, ◌∙◌, subst, arith}
use Rattle.std.specs.List.{AllByRecursion}
use Rattle.block.specs.Block.{Block, Blocks, IsBlock}
use Rattle.block.specs.Count.{count}
use Rattle.code.specs.Word.{Coding, Completes, Distinct, Has, lowest, AnyKBlocksBelongToExactlyOneWord}
use Rattle.code.specs.Calls.{block_at, marks_held, marked}
use Rattle.code.proofs.Law.{Agree, some_value}
use Rattle.code.proofs.Blocks.{lowest_some, lowest_count}

-- the numbers below n that pass a test, the largest first
picked : (ℕ → Bool) → ℕ → List ℕ
picked p zero = []
picked p (suc n) = cond (p n) (n ∷ picked p n) (picked p n)

module _ (p : ℕ → Bool) where
  picked_length : (n : ℕ) → length (picked p n) ≡ count p n
  unfolding picked
  picked_length zero = refl
  picked_length (suc n) =
      elim (p n) as (λ b. length (cond b (n ∷ picked p n) (picked p n)) ≡ cond b (suc (count p n)) (count p n))
      [ true ↦ ap suc (picked_length n) | false ↦ picked_length n ]

  picked_all : (P : ℕ → Type 0) (n : ℕ) → ((i : ℕ) → i < n → p i ≡ true → P i) → AllByRecursion P (picked p n)
  unfolding picked
  picked_all P zero h = tt
  picked_all P (suc n) h =
      let rest : AllByRecursion P (picked p n) = picked_all P n (λ i l. h i (omega arith)) in
      (elim (p n) as (λ b. (b ≡ true → P n) → AllByRecursion P (cond b (n ∷ picked p n) (picked p n)))
      [ true ↦ λ g. (g refl, rest) | false ↦ λ g. rest ]) (h n (omega arith))

  picked_distinct : (n : ℕ) → Distinct (picked p n)
  unfolding picked
  picked_distinct zero = tt
  picked_distinct (suc n) =
      elim (p n) as (λ b. Distinct (cond b (n ∷ picked p n) (picked p n)))
      [ true ↦ (picked_all (λ y. n ≡ y → ⊥) n (λ i l t q. omega arith), picked_distinct n) | false ↦ picked_distinct n ]

pub agree : (c : Coding) → Completes c → AnyKBlocksBelongToExactlyOneWord c → Agree c
agree c completes law h w v enough ww wv hw hv i l =
    let n = c.k + c.m in
    let held : ℕ → Bool = λ i. is_some (h i) in
    let put : Blocks = λ i. unwrap_or (h i) [] in
    let is : (u : Blocks) → Has n u h → AllByRecursion (λ i. u i ≡ put i) (picked held n) =
    λ u hu. picked_all held (λ i. u i ≡ put i) n (λ i li t. hu i (put i) li (some_value (h i) t)) in
    let one = law (picked held n) (picked_length held n ∙ enough) (picked_distinct held n) (picked_all held (λ i. i < n) n (λ i li t. li)) put
    (picked_all held (λ i. IsBlock (put i)) n (λ i li t. subst IsBlock (hw i (put i) li (some_value (h i) t)) (completes.blocks w i ww li))) in
    one.only w ww (is w hw) i l ∙ sym (one.only v wv (is v hv) i l)

-- where the marks leave k blocks of a word, the rebuild of any block gives that of the word
pub rebuilt : (c : Coding) → Completes c → AnyKBlocksBelongToExactlyOneWord c
    → (marks bytes : List ℕ) → c.k ≤ count (marks_held marks) (c.k + c.m)
    → (w : Blocks) → c.Word w → ((i : ℕ) → i < c.k + c.m → marks_held marks i ≡ true → block_at bytes i ≡ w i)
    → (i : ℕ) → i < c.k + c.m → c.whole (lowest c.k (marked marks bytes)) i ≡ w i
rebuilt c completes law marks bytes enough w ww left i l =
    let h = lowest c.k (marked marks bytes) in
    let some = lowest_some c.k marks bytes in
    let counted = lowest_count c.k marks bytes (c.k + c.m) enough in
    let has : Has (c.k + c.m) w h = λ i b li e. sym (left i li (some i b e).0) ∙ (some i b e).1 in
    let blocks = λ (i : ℕ) (b : Block) (li : i < c.k + c.m) (e : h i ≡ Some b). subst IsBlock (has i b li e) (completes.blocks w i ww li) in
    agree c completes law h (c.whole h) w counted (completes.word h blocks counted) ww (completes.has h blocks counted) has i l
