-- Blocks, and blocks by their number.
use Rattle.std.specs.Prelude.{◌≡◌, ℕ, ◌<◌, List, length, Option, slice_index}

-- a list of bytes
abbrev pub Block : Type 0
Block = List ℕ

-- of which a block has 64
pub record IsBlock (b : Block) : Type 0 where
  pub size : length b ≡ 64
  pub bytes : (j : ℕ) → slice_index b j < 256

-- a block for each number
abbrev pub Blocks : Type 0
Blocks = ℕ → Block

-- a block or nothing for each number
abbrev pub Held : Type 0
Held = ℕ → Option Block
