-- The cells that an image holds.
use Rattle.std.specs.Prelude.{ℕ, zero, suc, ◌+◌, Bool, is_some}
use Rattle.block.specs.Count.{count}
use Rattle.store.specs.Calls.{cells_of}
use Rattle.grid.specs.Grid.{means}
use Rattle.image_reader.specs.declared.reader.ImageReader.{ImageReader}
use Rattle.image_reader.specs.Reader.{shape_of, grid_of}

-- whether there is a block at a slot, node and place
abbrev pub has : ImageReader → ℕ → ℕ → ℕ → Bool
has r s n p = is_some (cells_of ((means (grid_of r)).slot s) n p)

-- how many a node has in a slot
abbrev pub of_node : ImageReader → ℕ → ℕ → ℕ
of_node r s n = count (has r s n) (shape_of r).places

-- how many the first k nodes have in a slot
abbrev pub of_nodes : ImageReader → ℕ → ℕ → ℕ
of_nodes r s zero = 0
of_nodes r s (suc k) = of_nodes r s k + of_node r s k
