-- Marks for blocks that are lost.
use Rattle.std.specs.Prelude.{◌≡◌, ℕ, ◌<◌, cond, List, length, ◌==◌, slice_index}
use Rattle.std.specs.List.{list_any}

-- i is one of the numbers
abbrev pub Among : List ℕ → ℕ → Type 0
Among numbers i = (k : ℕ) × (k < length numbers) × (slice_index numbers k ≡ i)

-- the mark of block i
abbrev pub mark : List ℕ → ℕ → ℕ
mark lost i = cond (list_any (λ x. x == i) lost) 0 1

-- n marks, which are 0 at the lost numbers and 1 at the others
pub record Marks (lost marks : List ℕ) (n : ℕ) : Type 0 where
  pub long : length marks ≡ n
  pub gone : (i : ℕ) → i < n → Among lost i → slice_index marks i ≡ 0
  pub kept : (i : ℕ) → i < n → (Among lost i → ⊥) → slice_index marks i ≡ 1
