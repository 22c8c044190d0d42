-- The grid that a bank holds.
use Rattle.std.specs.Prelude.{◌≡◌, ℕ, ◌<◌}
use Rattle.store.specs.declared.kinds.Shape.{Shape}
use Rattle.grid.specs.Index.{index}
use Rattle.grid.specs.Grid.{Grid}
use Rattle.bank.specs.declared.Bank.{Bank}
use Rattle.bank.specs.Table.{blank, at, grid_at, SoundTable}

abbrev pub shape_of : Bank → Shape
shape_of b = b.shape

abbrev pub SoundBank : Bank → Type 0
SoundBank b = SoundTable (shape_of b) b.states b.cells.now

abbrev pub grid_of : Bank → Grid
grid_of b = grid_at (shape_of b) b.states b.cells.now

-- the very states and cells
abbrev pub Untouched : Bank → Bank → Type 0
Untouched b c = (c.states ≡ b.states) × (c.cells.now ≡ b.cells.now)

-- every cell of the node is absent, and zeros
abbrev pub Wiped : Bank → ℕ → Type 0
Wiped b n = (s p : ℕ) → s < (shape_of b).slots → p < (shape_of b).places → at b.cells.now (index (shape_of b) s n p) ≡ blank

-- every cell of the node in that slot is absent, and zeros
abbrev pub WipedIn : Bank → ℕ → ℕ → Type 0
WipedIn b s n = (p : ℕ) → p < (shape_of b).places → at b.cells.now (index (shape_of b) s n p) ≡ blank
