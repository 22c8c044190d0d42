-- What a code is: its words, and the law that any k blocks belong to exactly one of them.
use Rattle.std.specs.Prelude.{◌≡◌, ℕ, ◌+◌, ◌<◌, ◌≤◌, cond, List, [], ◌∷◌, length, is_some, Some, None, ◌≢◌, nat_lt}
use Rattle.std.specs.List.{AllByRecursion}
use Rattle.block.specs.Block.{Block, Blocks, Held, IsBlock}
use Rattle.block.specs.Count.{count}

-- What a code means: k data blocks and m check blocks make a word if they obey its rule, and `whole` completes k held blocks.
pub record Coding : Type 1 where
  pub k : ℕ
  pub m : ℕ
  pub Word : Blocks → Type 0
  pub whole : Held → Blocks

-- no other sizes are admitted
pub record Limits (c : Coding) : Type 0 where
  pub k_least : 1 ≤ c.k
  pub k_most : c.k ≤ 12
  pub m_least : 1 ≤ c.m
  pub m_most : c.m ≤ 4

-- all different
abbrev pub Distinct : List ℕ → Type 0
Distinct [] = Unit {0}
Distinct (x ∷ xs) = AllByRecursion (λ y. x ≢ y) xs × Distinct xs

-- exactly one word has, at each of the numbers, the block that is put there
pub record ExactlyOneWord (c : Coding) (numbers : List ℕ) (put : Blocks) : Type 0 where
  pub word : Blocks
  pub is_word : c.Word word
  pub has : AllByRecursion (λ n. word n ≡ put n) numbers
  pub only : (w : Blocks) → c.Word w → AllByRecursion (λ n. w n ≡ put n) numbers → (n : ℕ) → n < c.k + c.m → w n ≡ word n

-- THE LAW OF A CODE: any k blocks, put at any k different block numbers, belong to exactly one word.
abbrev pub AnyKBlocksBelongToExactlyOneWord : Coding → Type 0
AnyKBlocksBelongToExactlyOneWord c =
    (numbers : List ℕ) → length numbers ≡ c.k → Distinct numbers → AllByRecursion (λ n. n < c.k + c.m) numbers
    → (put : Blocks) → AllByRecursion (λ n. IsBlock (put n)) numbers → ExactlyOneWord c numbers put

-- how many blocks are held at the numbers below n
abbrev pub count_held : Held → ℕ → ℕ
count_held h n = count (λ i. is_some (h i)) n

-- what is held below n is blocks
abbrev pub AllBlocks : ℕ → Held → Type 0
AllBlocks n h = (i : ℕ) (b : Block) → i < n → h i ≡ Some b → IsBlock b

-- w has what is held below n
abbrev pub Has : ℕ → Blocks → Held → Type 0
Has n w h = (i : ℕ) (b : Block) → i < n → h i ≡ Some b → w i ≡ b

-- words are made of blocks, and `whole` of k held blocks is a word that has them
pub record Completes (c : Coding) : Type 0 where
  pub blocks : (w : Blocks) (i : ℕ) → c.Word w → i < c.k + c.m → IsBlock (w i)
  pub word : (h : Held) → AllBlocks (c.k + c.m) h → count_held h (c.k + c.m) ≡ c.k → c.Word (c.whole h)
  pub has : (h : Held) → AllBlocks (c.k + c.m) h → count_held h (c.k + c.m) ≡ c.k → Has (c.k + c.m) (c.whole h) h

-- of the held blocks, the k with the lowest numbers
abbrev pub lowest : ℕ → Held → Held
lowest k h i = cond (nat_lt (count_held h i) k) (h i) None
