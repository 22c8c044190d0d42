-- Of the numbers that pass a test, and of the blocks that are held, the k lowest. Assumes nothing.
use Rattle.std.proofs.Common.{◌≡◌, ℕ, zero, suc, ◌+◌, ◌-◌, ◌<◌, ◌≤◌, Bool, true, false, cond, ◌&&◌, ltb, is_some, Some, None, Option, refl, ap, ◌∙◌, ⊎_elim, arith}
use Rattle.std.proofs.lemmas.Bool.{cases_lt, lt-ltb, le-ltb, false≢true}
use Rattle.block.specs.Block.{Block, Held}
use Rattle.block.specs.Count.{count}
use Rattle.block.proofs.Counts.{count_same}
use Rattle.code.specs.Word.{lowest, count_held}

abbrev pub among_lowest : ℕ → (ℕ → Bool) → ℕ → Bool
among_lowest k p i = p i && ltb (count p i) k

count_lowest : (k : ℕ) (p : ℕ → Bool) (n : ℕ) → count (among_lowest k p) n + (count p n - k) ≡ count p n
count_lowest k p zero = omega arith
count_lowest k p (suc n) =
    elim (p n) as (λ b. cond (b && ltb (count p n) k) (suc (count (among_lowest k p) n)) (count (among_lowest k p) n)
    + (cond b (suc (count p n)) (count p n) - k) ≡ cond b (suc (count p n)) (count p n)) [
      | true ↦ ⊎_elim
          (λ (l : count p n < k).
          ap (λ t. cond t (suc (count (among_lowest k p) n)) (count (among_lowest k p) n) + (suc (count p n) - k)) (lt-ltb (count p n) k l)
          ∙ omega (arith, count_lowest k p n))
          (λ (l : k ≤ count p n).
          ap (λ t. cond t (suc (count (among_lowest k p) n)) (count (among_lowest k p) n) + (suc (count p n) - k)) (le-ltb (count p n) k l)
          ∙ omega (arith, count_lowest k p n))
          (cases_lt (count p n) k)
      | false ↦ count_lowest k p n
    ]

-- what is there under a test
pub some_under : (a : Bool) (o : Option Block) → is_some (cond a o None) ≡ (is_some o && a)
some_under true None = refl
some_under true (Some b) = refl
some_under false None = refl
some_under false (Some b) = refl

pub held_lowest : (k : ℕ) (h : Held) (i : ℕ) → is_some (lowest k h i) ≡ among_lowest k (λ j. is_some (h j)) i
held_lowest k h i = some_under (ltb (count_held h i) k) (h i)

-- the lowest k of k or more are k
pub count_lowest_held : (k : ℕ) (h : Held) (n : ℕ) → k ≤ count_held h n → count_held (lowest k h) n ≡ k
count_lowest_held k h n enough =
    count_same _ (among_lowest k (λ j. is_some (h j))) n (λ i l. held_lowest k h i) ∙ omega (arith, count_lowest k (λ j. is_some (h j)) n)

-- a block that is there under a test was there
pub kept : (t : Bool) (o : Option Block) (b : Block) → cond t o None ≡ Some b → (t ≡ true) × (o ≡ Some b)
kept true o b e = (refl, e)
kept false o b e = absurd (false≢true (ap is_some e))

-- and is one of those that were held
pub lowest_was : (k : ℕ) (h : Held) (i : ℕ) (b : Block) → lowest k h i ≡ Some b → h i ≡ Some b
lowest_was k h i b e = (kept (ltb (count_held h i) k) (h i) b e).1
