-- A table of cells, and the row of blocks that it shows.
use Rattle.std.specs.Prelude.{◌≡◌, ℕ, false, cond, List, length, replicate, Some, None, Option, slice_index_or}
use Rattle.store.specs.declared.kinds.Shape.{Shape}
use Rattle.store.specs.declared.kinds.State.{State}
use Rattle.store.specs.declared.kinds.State.TheVariants.{Empty}
use Rattle.block.specs.Block.{Block}
use Rattle.grid.specs.Index.{total}
use Rattle.grid.specs.Grid.{Grid, Sound}
use Rattle.grid.specs.Row.{Row, rowed}
use Rattle.bank.specs.declared.cell.Cell.{Cell}

abbrev pub blank : Cell
blank = record { present = false; block = replicate 64 0 }

abbrev pub at : List Cell → ℕ → Cell
at xs i = slice_index_or xs i blank

abbrev pub content : Cell → Option Block
content c = cond c.present (Some c.block) None

abbrev pub row_of : List Cell → Row
row_of xs i = content (at xs i)

abbrev pub marks_of : List State → ℕ → State
marks_of zs s = slice_index_or zs s Empty

abbrev pub grid_at : Shape → List State → List Cell → Grid
grid_at h zs xs = rowed h (marks_of zs) (row_of xs)

pub record SoundTable (h : Shape) (zs : List State) (xs : List Cell) : Type 0 where
  pub grid : Sound (grid_at h zs xs)
  pub size : length xs ≡ total h
  pub marks : length zs ≡ 8
