-- Codes that work byte by byte: byte j of a word's blocks is a word of bytes, for every j.
use Rattle.std.specs.Prelude.{◌≡◌, ℕ, ◌+◌, ◌<◌, Bool, [], map, is_some, slice_index}
use Rattle.std.specs.List.{range_with_len}
use Rattle.std.specs.Option.{unwrap_or}
use Rattle.block.specs.Block.{Blocks, Held, IsBlock}
use Rattle.field.specs.Field.{mul}
use Rattle.field.specs.Sums.{summed}
use Rattle.recovery.specs.Recovers.{Rule, Weights, ByteWord, Recovers, recovered}
use Rattle.recovery.specs.Rules.{every}
use Rattle.code.specs.Word.{Coding}

-- the sizes, the rule of the checks, the coefficient of data d in check e, and the weights of a rebuild
pub record Recipe : Type 0 where
  pub k : ℕ
  pub m : ℕ
  pub rule : Rule
  pub coefficient : ℕ → ℕ → ℕ
  pub weight : Weights

pub record WordByBytes (k m : ℕ) (rule : Rule) (w : Blocks) : Type 0 where
  pub blocks : (c : ℕ) → c < k + m → IsBlock (w c)
  pub columns : (j : ℕ) → j < 64 → ByteWord k m rule (λ c. slice_index (w c) j)

-- which blocks are held, and byte j of each
abbrev pub held : Held → ℕ → Bool
held h i = is_some (h i)

abbrev pub column : Held → ℕ → ℕ → ℕ
column h j i = slice_index (unwrap_or (h i) []) j

-- block c as the weights give it from the held blocks, byte by byte
abbrev pub completed : Recipe → Held → Blocks
completed r h c = map (λ j. recovered r.weight (r.k + r.m) (held h) (column h j) c) (range_with_len 0 64)

-- the code of a recipe
abbrev pub coded : Recipe → Coding
coded r = record { k = r.k; m = r.m; Word = WordByBytes r.k r.m r.rule; whole = completed r }

-- a recipe that works: its weights give every byte back, and its checks are sums of the data times the coefficients
pub record Works (r : Recipe) : Type 0 where
  pub recovers : Recovers r.k r.m r.rule r.weight
  pub sums : (e : ℕ) (w : ℕ → ℕ) → e < r.m → ((d : ℕ) → d < r.k → w d < 256)
      → r.rule e w ≡ summed every (λ d. mul (w d) (r.coefficient e d)) r.k
