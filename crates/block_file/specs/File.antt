-- The grid that a block file holds, and what a lost node leaves in it.
use Rattle.std.specs.Prelude.{◌≡◌, ℕ, ◌<◌, replicate}
use Rattle.store.specs.declared.kinds.Shape.{Shape}
use Rattle.grid.specs.Grid.{Grid}
use Rattle.grid.specs.Index.{index}
use Rattle.image_format.specs.Image.{grid_at, record_at, SoundImage}
use Rattle.block_file.specs.declared.BlockFile.{BlockFile}

abbrev pub shape_of : BlockFile → Shape
shape_of f = f.shape

abbrev pub grid_of : BlockFile → Grid
grid_of f = grid_at (shape_of f) f.image.now

abbrev pub SoundFile : BlockFile → Type 0
SoundFile f = SoundImage (shape_of f) f.image.now

-- every record of node n is zeros
abbrev pub WipedNode : BlockFile → ℕ → Type 0
WipedNode f n = (s p : ℕ) → s < (shape_of f).slots → p < (shape_of f).places → record_at (shape_of f) f.image.now (index (shape_of f) s n p) ≡ replicate 72 0

-- every record of node n in slot s is zeros
abbrev pub WipedIn : BlockFile → ℕ → ℕ → Type 0
WipedIn f s n = (p : ℕ) → p < (shape_of f).places → record_at (shape_of f) f.image.now (index (shape_of f) s n p) ≡ replicate 72 0
