-- A rank's file: the blocks of its node in a slot, place by place.
use Rattle.std.specs.Prelude.{◌≡◌, ℕ, zero, suc, ◌*◌, ◌<◌, not, List, [], ◌++◌, length, take, Some, None, Ok, Err, Option, Result, ◌==◌, nat_le}
use Rattle.std.specs.Option.{unwrap_or}
use Rattle.refusal.specs.Answer.{refuse, first, Turns}
use Rattle.refusal.specs.declared.kind.Refusal.{Refusal}
use Rattle.refusal.specs.declared.kind.Refusal.TheVariants.{Node, Length}
use Rattle.store.specs.Meaning.{Cells, Meaning}
use Rattle.store.specs.Calls.{cells_of, cell_refusal, beyond_slots}

-- the blocks of a node's first k places, one after the other
abbrev pub gathered : Cells → ℕ → ℕ → List ℕ
gathered c n zero = []
gathered c n (suc k) = gathered c n k ++ unwrap_or (c n k) []

-- the first of the places that gives no block says why
abbrev pub rank_refusal : Meaning → ℕ → ℕ → ℕ → Option Refusal
rank_refusal m s n len =
    refuse (nat_le m.shape.nodes n) Node
    (beyond_slots m s
    (refuse (not (len == 64 * m.shape.places)) Length
    (first (cell_refusal (m.slot s) n) m.shape.places)))

abbrev pub RankAnswer : Meaning → ℕ → ℕ → List ℕ → Result Unit Refusal → List ℕ → Type 0
RankAnswer m s n old r new =
    Turns (rank_refusal m s n (length old)) old (gathered (cells_of (m.slot s)) n m.shape.places) r new

-- a slot and a node of the store, and room for a file
pub record Reads (m : Meaning) (s n len : ℕ) : Type 0 where
  pub slot : s < m.shape.slots
  pub node : n < m.shape.nodes
  pub room : len ≡ 64 * m.shape.places

-- what a loop over the places has read
pub record Gathered (m : Meaning) (s n k : ℕ) (out : List ℕ) : Type 0 where
  pub none : first (cell_refusal (m.slot s) n) k ≡ None
  pub bytes : take (64 * k) out ≡ gathered (cells_of (m.slot s)) n k

-- where the loop ends: at the first refusal, or with all the blocks
abbrev pub Ends : Meaning → ℕ → ℕ → Result Unit Refusal → List ℕ → Type 0
Ends m s n (Ok x) out = Gathered m s n m.shape.places out
Ends m s n (Err f) out = first (cell_refusal (m.slot s) n) m.shape.places ≡ Some f
