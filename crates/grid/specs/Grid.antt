-- A bare store laid out as a mark for each slot and a block or nothing for each cell, and the store that it means.
use Rattle.std.specs.Prelude.{◌≡◌, ℕ, ◌≤◌, cond, not, ◌&&◌, is_some, Some, None, ◌==◌, nat_lt}
use Rattle.store.specs.declared.kinds.Shape.{Shape}
use Rattle.store.specs.declared.kinds.State.{State}
use Rattle.store.specs.declared.kinds.State.TheVariants.{Empty, Open, Sealed}
use Rattle.block.specs.Block.{Block}
use Rattle.store.specs.Meaning.{Nodes, Cells, Slot, Meaning, Limits, Tidy, Within, bare}
use Rattle.store.specs.Meaning.Slot.{empty, opened, sealed}

pub record Grid : Type 0 where
  pub shape : Shape
  pub state : ℕ → State
  -- by slot, node and place
  pub cell : ℕ → Cells

-- a node of a sealed slot is lost if it has no cell there, which its first place tells
abbrev pub gone : Grid → ℕ → Nodes
gone g s n = nat_lt n g.shape.nodes && not (is_some (g.cell s n 0))

abbrev pub slot_as : State → Nodes → Cells → Slot
slot_as Empty d c = empty
slot_as Open d c = opened c
slot_as Sealed d c = sealed d c

abbrev pub means : Grid → Meaning
means g = record { shape = g.shape; covers = bare; slot = λ s. slot_as (g.state s) (gone g s) (g.cell s) }

pub record Sound (g : Grid) : Type 0 where
  pub limits : Limits g.shape
  pub tidy : (s : ℕ) → Tidy g.shape (g.cell s)
  pub past : (s : ℕ) → g.shape.slots ≤ s → g.state s ≡ Empty
  -- an empty slot has no cell
  pub vacant : (s n p : ℕ) → g.state s ≡ Empty → g.cell s n p ≡ None
  -- a node of a sealed slot has all its cells or none
  pub whole : (s n p : ℕ) → g.state s ≡ Sealed → Within g.shape n p → is_some (g.cell s n p) ≡ is_some (g.cell s n 0)

-- What each call makes of a grid.

abbrev pub marked : Grid → ℕ → State → Grid
marked g s x = record { shape = g.shape; state = λ t. cond (t == s) x (g.state t); cell = g.cell }

abbrev pub written : Grid → ℕ → ℕ → ℕ → Block → Grid
written g s n p b = record { shape = g.shape; state = g.state; cell = λ t x y. cond (t == s && (x == n && y == p)) (Some b) (g.cell t x y) }

abbrev pub dropped : Grid → ℕ → Grid
dropped g n = record { shape = g.shape; state = g.state; cell = λ t x y. cond (x == n) None (g.cell t x y) }

abbrev pub dropped_in : Grid → ℕ → ℕ → Grid
dropped_in g s n = record { shape = g.shape; state = g.state; cell = λ t x y. cond (t == s && x == n) None (g.cell t x y) }

abbrev pub cleared : Grid → ℕ → Grid
cleared g s = record { shape = g.shape; state = λ t. cond (t == s) Empty (g.state t); cell = λ t x y. cond (t == s) None (g.cell t x y) }

-- every slot empty
abbrev pub fresh : Shape → Grid
fresh h = record { shape = h; state = λ s. Empty; cell = λ s n p. None }
