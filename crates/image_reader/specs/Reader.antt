-- What an image reader means, and what it hands out.
use Rattle.std.specs.Prelude.{◌≡◌, ℕ, ◌+◌, List, take, drop, Some, None, Ok, Err, Option, Result}
use Rattle.std.specs.Borrow.{Bor}
use Rattle.refusal.specs.declared.kind.Refusal.{Refusal}
use Rattle.store.specs.declared.kinds.Shape.{Shape}
use Rattle.store.specs.Meaning.{Meaning}
use Rattle.store.specs.Calls.{beyond_shape, cell_refusal, cells_of}
use Rattle.grid.specs.Grid.{Grid}
use Rattle.grid.specs.Index.{index}
use Rattle.image_format.specs.Image.{start, grid_at, SoundImage}
use Rattle.image_reader.specs.declared.reader.ImageReader.{ImageReader}

abbrev pub shape_of : ImageReader → Shape
shape_of r = r.laid.shape

abbrev pub image_of : ImageReader → List ℕ
image_of r = r.laid.bytes.now

abbrev pub grid_of : ImageReader → Grid
grid_of r = grid_at (shape_of r) (image_of r)

-- every reader is, by its type
abbrev pub SoundReader : ImageReader → Type 0
SoundReader r = SoundImage (shape_of r) (image_of r)

-- a block is handed out unless a number is too high or there is none
abbrev pub block_refusal : Meaning → ℕ → ℕ → ℕ → Option Refusal
block_refusal m s n p = beyond_shape m s n p (cell_refusal (m.slot s) n p)

-- the 64 bytes behind the head of a cell's record
abbrev pub block_part : Shape → List ℕ → ℕ → ℕ → ℕ → List ℕ
block_part h img s n p = take 64 (drop (start h (index h s n p) + 8) img)

-- refused exactly so, else the block of the cell is handed out
abbrev pub Hands : Meaning → ℕ → ℕ → ℕ → Result (Bor (List ℕ)) Refusal → Type 0
Hands m s n p (Ok b) = (block_refusal m s n p ≡ None) × (cells_of (m.slot s) n p ≡ Some b.now)
Hands m s n p (Err f) = block_refusal m s n p ≡ Some f
