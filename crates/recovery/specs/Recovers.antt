-- Codes byte by byte: a word's bytes, and how k of them give the others back.
use Rattle.std.specs.Prelude.{◌≡◌, ℕ, ◌+◌, ◌<◌, Bool, true}
use Rattle.block.specs.Count.{count}
use Rattle.field.specs.Field.{mul}
use Rattle.field.specs.Sums.{summed}

-- check e as a function of the data
abbrev pub Rule : Type 0
Rule = ℕ → (ℕ → ℕ) → ℕ

-- k data bytes and m check bytes that obey the rule
pub record ByteWord (k m : ℕ) (rule : Rule) (w : ℕ → ℕ) : Type 0 where
  pub bytes : (c : ℕ) → c < k + m → w c < 256
  pub checks : (e : ℕ) → e < m → w (k + e) ≡ rule e w

-- the weight of one chosen number in the number that is wanted: by the chosen numbers, the wanted one and the chosen one
abbrev pub Weights : Type 0
Weights = (ℕ → Bool) → ℕ → ℕ → ℕ

-- byte c as the weights give it from the chosen bytes of v, of n
abbrev pub recovered : Weights → ℕ → (ℕ → Bool) → (ℕ → ℕ) → ℕ → ℕ
recovered weight n chosen v c = summed chosen (λ i. mul (v i) (weight chosen c i)) n

-- from any k chosen bytes the weights give a word that has them, and of a word the weights give every byte
pub record Recovers (k m : ℕ) (rule : Rule) (weight : Weights) : Type 0 where
  pub has : (chosen : ℕ → Bool) → count chosen (k + m) ≡ k → (v : ℕ → ℕ) (c : ℕ) → c < k + m → chosen c ≡ true → v c < 256
      → recovered weight (k + m) chosen v c ≡ v c
  pub obeys : (chosen : ℕ → Bool) → count chosen (k + m) ≡ k → (v : ℕ → ℕ) (e : ℕ) → e < m
      → recovered weight (k + m) chosen v (k + e) ≡ rule e (recovered weight (k + m) chosen v)
  pub gives : (chosen : ℕ → Bool) → count chosen (k + m) ≡ k → (w : ℕ → ℕ) → ByteWord k m rule w → (c : ℕ) → c < k + m
      → recovered weight (k + m) chosen w c ≡ w c
