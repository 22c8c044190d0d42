-- A byte image: a head of eight bytes for each slot, then a record of 72 bytes for each cell.
use Rattle.std.specs.Prelude.{◌≡◌, ℕ, ◌+◌, ◌-◌, ◌*◌, ◌/◌, ◌%◌, ◌<◌, ◌≤◌, cond, ◌&&◌, List, ◌∷◌, length, take, drop, replicate, Some, None, Option, ◌==◌, nat_le, nat_lt, slice_index}
use Rattle.store.specs.declared.kinds.Shape.{Shape}
use Rattle.store.specs.declared.kinds.State.{State}
use Rattle.store.specs.declared.kinds.State.TheVariants.{Empty, Open, Sealed}
use Rattle.block.specs.Block.{Block}
use Rattle.grid.specs.Index.{total}
use Rattle.grid.specs.Grid.{Grid, Sound}
use Rattle.grid.specs.Row.{Row, rowed}

-- ys is xs with new bytes from a on, if xs is long enough for them
abbrev pub Over : List ℕ → List ℕ → ℕ → List ℕ → Type 0
Over xs ys a new = a + length new ≤ length xs → (k : ℕ) → slice_index ys k ≡ cond (nat_le a k && nat_lt k (a + length new)) (slice_index new (k - a)) (slice_index xs k)

-- ys is xs with zeros in the places from a to before b
abbrev pub Wiped : List ℕ → List ℕ → ℕ → ℕ → Type 0
Wiped xs ys a b = (k : ℕ) → slice_index ys k ≡ cond (nat_le a k && nat_lt k b) 0 (slice_index xs k)

-- where record i begins
abbrev pub start : Shape → ℕ → ℕ
start h i = 8 * h.slots + 72 * i

abbrev pub size : Shape → ℕ
size h = 8 * h.slots + 72 * (h.slots * h.nodes * h.places)

abbrev pub record_at : Shape → List ℕ → ℕ → List ℕ
record_at h img i = take 72 (drop (start h i) img)

abbrev pub head_at : List ℕ → ℕ → List ℕ
head_at img s = take 8 (drop (8 * s) img)

-- the record of cell i, with a block or absent
abbrev pub record_of : Shape → ℕ → Option Block → List ℕ
record_of h i None = replicate 72 0
record_of h i (Some v) = 1 ∷ i / h.places / h.nodes ∷ i / h.places % h.nodes ∷ i % h.places ∷ 0 ∷ 0 ∷ 0 ∷ 0 ∷ v

abbrev pub head_of : State → List ℕ
head_of Empty = replicate 8 0
head_of Open = 1 ∷ replicate 7 0
head_of Sealed = 2 ∷ replicate 7 0

abbrev pub cell_from : List ℕ → Option Block
cell_from r = cond (slice_index r 0 == 1) (Some (drop 8 r)) None

abbrev pub state_from : ℕ → State
state_from b = cond (b == 1) Open (cond (b == 2) Sealed Empty)

abbrev pub row_of : Shape → List ℕ → Row
row_of h img i = cell_from (record_at h img i)

abbrev pub marks_of : Shape → List ℕ → ℕ → State
marks_of h img s = cond (nat_lt s h.slots) (state_from (slice_index img (8 * s))) Empty

abbrev pub grid_at : Shape → List ℕ → Grid
grid_at h img = rowed h (marks_of h img) (row_of h img)

-- an image as the format has it, byte by byte
pub record SoundImage (h : Shape) (img : List ℕ) : Type 0 where
  pub grid : Sound (grid_at h img)
  pub length : length img ≡ size h
  pub heads : (s : ℕ) → s < h.slots → head_at img s ≡ head_of (marks_of h img s)
  pub records : (i : ℕ) → i < total h → record_at h img i ≡ record_of h i (row_of h img i)

-- an image that shows these marks and this row, byte by byte
pub record Holds (h : Shape) (img : List ℕ) (marks : ℕ → State) (row : Row) : Type 0 where
  pub length : length img ≡ size h
  pub heads : (s : ℕ) → s < h.slots → head_at img s ≡ head_of (marks s)
  pub records : (i : ℕ) → i < total h → record_at h img i ≡ record_of h i (row i)
  -- past the heads there is no slot in use
  pub past : (s : ℕ) → h.slots ≤ s → marks s ≡ Empty
