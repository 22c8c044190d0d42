-- What each call of a store answers and leaves.
use Rattle.std.specs.Prelude.{◌≡◌, ℕ, ◌<◌, Bool, true, false, cond, not, ◌&&◌, ◌||◌, List, length, is_some, Some, None, Option, Result, MatchResult, ◌==◌, nat_le}
use Rattle.std.specs.Option.{unwrap_or}
use Rattle.refusal.specs.Answer.{refuse, outcome, first, Turns}
use Rattle.refusal.specs.declared.kind.Refusal.{Refusal}
use Rattle.refusal.specs.declared.kind.Refusal.TheVariants.{Node, Place, Slot as BadSlot, Length, SlotNotEmpty, SlotNotOpen, Missing, SlotEmpty, Incomplete}
use Rattle.store.specs.declared.kinds.Shape.{Shape}
use Rattle.store.specs.declared.kinds.State.{State}
use Rattle.store.specs.declared.kinds.UnknownState.{UnknownState}
use Rattle.store.specs.declared.kinds.State.TheVariants.{Empty, Open, Sealed}
use Rattle.block.specs.Block.{Block}
use Rattle.store.specs.Meaning.{Nodes, Cells, Slot, Rule, Meaning}
use Rattle.store.specs.Meaning.Slot.{empty, opened, sealed}

abbrev pub state_of : Slot → State
state_of empty = Empty
state_of (opened c) = Open
state_of (sealed d c) = Sealed

abbrev pub is_empty : Slot → Bool
is_empty empty = true
is_empty (opened c) = false
is_empty (sealed d c) = false

abbrev pub is_open : Slot → Bool
is_open empty = false
is_open (opened c) = true
is_open (sealed d c) = false

abbrev pub cells_of : Slot → Cells
cells_of empty = λ n p. None
cells_of (opened c) = c
cells_of (sealed d c) = c

abbrev pub with_slot : Meaning → ℕ → Slot → Meaning
with_slot m s x = record { shape = m.shape; covers = m.covers; slot = λ t. cond (t == s) x (m.slot t) }

abbrev pub beyond_slots : Meaning → ℕ → Option Refusal → Option Refusal
beyond_slots m s rest = refuse (nat_le m.shape.slots s) BadSlot rest

abbrev pub beyond_shape : Meaning → ℕ → ℕ → ℕ → Option Refusal → Option Refusal
beyond_shape m s n p rest = refuse (nat_le m.shape.nodes n) Node (refuse (nat_le m.shape.places p) Place (beyond_slots m s rest))

abbrev pub not_a_block : ℕ → Option Refusal → Option Refusal
not_a_block len rest = refuse (not (len == 64)) Length rest

-- the number of a state
abbrev pub state_number : State → ℕ
state_number Empty = 0
state_number Open = 1
state_number Sealed = 2

-- the state with a number, or that number where it is none's
abbrev pub StateOf : ℕ → Result State UnknownState → Type 0
StateOf k r = MatchResult r (λ x. state_number x ≡ k) (λ e. (e.0 ≡ k) × (2 < k))

-- state

abbrev pub StateAnswer : Meaning → ℕ → Result State Refusal → Type 0
StateAnswer m s r = r ≡ outcome (beyond_slots m s None) (state_of (m.slot s))

-- get

-- an empty slot, or no block at the cell: absent in an open slot, a gap in a sealed one
abbrev pub cell_refusal : Slot → ℕ → ℕ → Option Refusal
cell_refusal empty n p = Some SlotEmpty
cell_refusal (opened c) n p = refuse (not (is_some (c n p))) (Missing n p) None
cell_refusal (sealed d c) n p = refuse (not (is_some (c n p))) (Missing n p) None

abbrev pub get_refusal : Meaning → ℕ → ℕ → ℕ → ℕ → Option Refusal
get_refusal m s n p len = beyond_shape m s n p (not_a_block len (cell_refusal (m.slot s) n p))

abbrev pub GetAnswer : Meaning → ℕ → ℕ → ℕ → List ℕ → Result Unit Refusal → List ℕ → Type 0
GetAnswer m s n p old r new = Turns (get_refusal m s n p (length old)) old (unwrap_or (cells_of (m.slot s) n p) old) r new

-- open

abbrev pub no_cells : Cells
no_cells n p = None

abbrev pub open_refusal : Meaning → ℕ → Option Refusal
open_refusal m s = beyond_slots m s (refuse (not (is_empty (m.slot s))) SlotNotEmpty None)

abbrev pub opening : Meaning → ℕ → Meaning
opening m s = with_slot m s (opened no_cells)

abbrev pub OpenAnswer : Meaning → ℕ → Result Unit Refusal → Meaning → Type 0
OpenAnswer m s r m' = Turns (open_refusal m s) m (opening m s) r m'

-- put

abbrev pub put_refusal : Meaning → ℕ → ℕ → ℕ → ℕ → Option Refusal
put_refusal m s n p len = beyond_shape m s n p (not_a_block len (refuse (not (is_open (m.slot s))) SlotNotOpen None))

abbrev pub with_cell : Cells → ℕ → ℕ → Option Block → Cells
with_cell c n p b x y = cond (x == n && y == p) b (c x y)

abbrev pub putting : Meaning → ℕ → ℕ → ℕ → Block → Meaning
putting m s n p b = with_slot m s (opened (with_cell (cells_of (m.slot s)) n p (Some b)))

abbrev pub PutAnswer : Meaning → ℕ → ℕ → ℕ → Block → Result Unit Refusal → Meaning → Type 0
PutAnswer m s n p b r m' = Turns (put_refusal m s n p (length b)) m (putting m s n p b) r m'

-- seal

-- the first absent cell of a node, by place
abbrev pub absent_at : Shape → Cells → ℕ → Option Refusal
absent_at h c n = first (λ p. refuse (not (is_some (c n p))) (Incomplete n p) None) h.places

-- the first absent cell, by node, then place
abbrev pub incomplete : Shape → Cells → Option Refusal
incomplete h c = first (absent_at h c) h.nodes

abbrev pub seal_refusal : Meaning → ℕ → Option Refusal
seal_refusal m s = beyond_slots m s (refuse (not (is_open (m.slot s))) SlotNotOpen (incomplete m.shape (cells_of (m.slot s))))

abbrev pub no_nodes : Nodes
no_nodes n = false

abbrev pub sealing : Meaning → ℕ → Meaning
sealing m s = with_slot m s (sealed no_nodes (cells_of (m.slot s)))

abbrev pub SealAnswer : Meaning → ℕ → Result Unit Refusal → Meaning → Type 0
SealAnswer m s r m' = Turns (seal_refusal m s) m (sealing m s) r m'

-- lose

abbrev pub with_node : Nodes → ℕ → Nodes
with_node d n x = d x || x == n

-- an open slot forgets the node's cells; a sealed one keeps what its rule still covers
abbrev pub lost_slot : Rule → ℕ → Slot → Slot
lost_slot rule n empty = empty
lost_slot rule n (opened c) = opened (λ x p. cond (x == n) None (c x p))
lost_slot rule n (sealed d c) = sealed (with_node d n) (λ x p. cond (rule x p (with_node d n)) (c x p) None)

abbrev pub lose_refusal : Meaning → ℕ → Option Refusal
lose_refusal m n = refuse (nat_le m.shape.nodes n) Node None

abbrev pub losing : Meaning → ℕ → Meaning
losing m n = record { shape = m.shape; covers = m.covers; slot = λ s. lost_slot m.covers n (m.slot s) }

abbrev pub LoseAnswer : Meaning → ℕ → Result Unit Refusal → Meaning → Type 0
LoseAnswer m n r m' = Turns (lose_refusal m n) m (losing m n) r m'

-- clear

abbrev pub clearing : Meaning → ℕ → Meaning
clearing m s = with_slot m s empty

abbrev pub ClearAnswer : Meaning → ℕ → Result Unit Refusal → Meaning → Type 0
ClearAnswer m s r m' = Turns (beyond_slots m s None) m (clearing m s) r m'
