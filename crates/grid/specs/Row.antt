-- A grid whose cells lie in one row, by slot, then node, then place.
use Rattle.std.specs.Prelude.{ℕ, Bool, cond, ◌&&◌, None, Option, nat_lt}
use Rattle.store.specs.declared.kinds.Shape.{Shape}
use Rattle.store.specs.declared.kinds.State.{State}
use Rattle.block.specs.Block.{Block}
use Rattle.grid.specs.Index.{index}
use Rattle.grid.specs.Grid.{Grid}

-- what lies at each number of the row
abbrev pub Row : Type 0
Row = ℕ → Option Block

abbrev pub inside : Shape → ℕ → ℕ → ℕ → Bool
inside h s n p = nat_lt s h.slots && (nat_lt n h.nodes && nat_lt p h.places)

abbrev pub rowed : Shape → (ℕ → State) → Row → Grid
rowed h marks row = record { shape = h; state = marks; cell = λ s n p. cond (inside h s n p) (row (index h s n p)) None }
