-- A worked image: two nodes, one place, two slots.
use Rattle.std.specs.Prelude.{◌≡◌, ℕ, List, ◌∷◌, ◌++◌, replicate, Some}
use Rattle.refusal.specs.declared.kind.Refusal.TheVariants.{Sizes}
use Rattle.store.specs.declared.kinds.Shape.{Shape}
use Rattle.store.specs.Meaning.{Meaning, sized, bare, vacant}
use Rattle.store.specs.Calls.{opening, putting, sealing, losing}
use Rattle.grid.specs.Grid.{means}
use Rattle.grid.specs.Index.{table_refusal}
use Rattle.image_format.specs.Image.{size, grid_at, SoundImage}

abbrev pub small : Shape
small = sized 2 1 2

-- slot 0 opened, sevens put on node 0 and nines on node 1, sealed, and node 1 lost
abbrev pub hurt : Meaning
hurt = losing (sealing (putting (putting (opening (vacant small bare) 0) 0 0 0 (replicate 64 7)) 0 1 0 (replicate 64 9)) 0) 1

-- byte 0 is 2, byte 16 is 1, bytes 24 to 87 are 7, and the others of 304 are 0
abbrev pub expected : List ℕ
expected = 2 ∷ (replicate 15 0 ++ (1 ∷ (replicate 7 0 ++ (replicate 64 7 ++ replicate 216 0))))

pub record ImageExample : Type 0 where
  pub bytes : (img : List ℕ) → SoundImage small img → means (grid_at small img) ≡ hurt → img ≡ expected
  pub wrong_length : table_refusal small (size small) 303 ≡ Some Sizes
