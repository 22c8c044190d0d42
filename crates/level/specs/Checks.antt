-- Sealing a level: all data are read, then every check is written.
use Rattle.std.specs.Prelude.{◌≡◌, ℕ, ◌+◌, ◌*◌, ◌<◌, ◌≤◌, true, cond, List, is_some, Some, None, Ok, Err, Result, nat_lt}
use Rattle.refusal.specs.declared.kind.Refusal.{Refusal}
use Rattle.block.specs.Block.{Block, Blocks, Held}
use Rattle.code.specs.Calls.{block_at}
use Rattle.store.specs.Meaning.{Cells, Meaning}
use Rattle.store.specs.Meaning.Slot.{opened}
use Rattle.store.specs.Calls.{is_open, cells_of, with_slot, with_cell, absent_at, incomplete}
use Rattle.stripe_map.specs.declared.layout.Layout.{Layout}
use Rattle.stripe_map.specs.declared.layout.Stripe.{Stripe}
use Rattle.stripe_map.specs.Map.{node_of, place_of, stripe_of, block_of}
use Rattle.level.specs.Level.{level_shape}

-- the number of a stripe's first data block, where all data lie stripe after stripe
unfoldable pub start_of : Layout → Stripe → ℕ
start_of l s = ((s.group * l.group + s.first) * l.lanes + s.lane) * l.k

-- the number of a cell's block there
abbrev pub position_of : Layout → ℕ → ℕ → ℕ
position_of l n p = start_of l (stripe_of l n p) + block_of l p

-- slot s is there and open
pub record Unsealed (m : Meaning) (s : ℕ) : Type 0 where
  pub slot : s < m.shape.slots
  pub unsealed : is_open (m.slot s) ≡ true

-- the level's cells of the nodes below n are there, and read
abbrev pub Collected : Layout → Cells → ℕ → List ℕ → Type 0
Collected l c n bytes = (x y : ℕ) → x < n → x < l.nodes → y < l.k * l.lanes → c x y ≡ Some (block_at bytes (position_of l x y))

-- the same up to a place of node n
abbrev pub CollectedTo : Layout → Cells → ℕ → ℕ → List ℕ → Type 0
CollectedTo l c n p bytes = Collected l c n bytes × ((y : ℕ) → y < p → c n y ≡ Some (block_at bytes (position_of l n y)))

-- reading a node ends with its blocks, or at its first absent one
abbrev pub NodeEnds : Layout → Meaning → ℕ → ℕ → Result Unit Refusal → List ℕ → Type 0
NodeEnds l m s n (Ok x) bytes = Collected l (cells_of (m.slot s)) (n + 1) bytes × (absent_at (level_shape l m.shape) (cells_of (m.slot s)) n ≡ None)
NodeEnds l m s n (Err f) bytes = absent_at (level_shape l m.shape) (cells_of (m.slot s)) n ≡ Some f

-- and reading them all with all blocks, or at the first absent one
abbrev pub AllEnd : Layout → Meaning → ℕ → Result Unit Refusal → List ℕ → Type 0
AllEnd l m s (Ok x) bytes = Collected l (cells_of (m.slot s)) l.nodes bytes
AllEnd l m s (Err f) bytes = incomplete (level_shape l m.shape) (cells_of (m.slot s)) ≡ Some f

-- every cell of the level is there
abbrev pub Complete : Layout → Cells → Type 0
Complete l c = (n p : ℕ) → n < l.nodes → p < l.k * l.lanes → is_some (c n p) ≡ true

-- the data blocks of a stripe
abbrev pub data_of : Layout → Cells → Stripe → Held
data_of l c s i = cond (nat_lt i l.k) (c (node_of l s i) (place_of l s i)) None

-- the block of the data's word that belongs to a cell
abbrev pub check_at : Layout → (Held → Blocks) → Cells → ℕ → ℕ → Block
check_at l whole c n p = whole (data_of l c (stripe_of l n p)) (block_of l p)

-- slot s is open and has all the level's cells, which were read
pub record Ready (l : Layout) (m : Meaning) (s : ℕ) (bytes : List ℕ) : Type 0 where
  pub unsealed : Unsealed m s
  pub read : Collected l (cells_of (m.slot s)) l.nodes bytes

-- a place of a check
pub record CheckPlace (l : Layout) (n p : ℕ) : Type 0 where
  pub node : n < l.nodes
  pub least : l.k * l.lanes ≤ p
  pub most : p < (l.k + l.m) * l.lanes

abbrev pub checked_one : Layout → (Held → Blocks) → Meaning → ℕ → ℕ → ℕ → Meaning
checked_one l whole m s n p = with_slot m s (opened (with_cell (cells_of (m.slot s)) n p (Some (check_at l whole (cells_of (m.slot s)) n p))))

-- the checks at the cells of D are written, and nothing else is changed
pub record Written (l : Layout) (whole : Held → Blocks) (D : ℕ → ℕ → Type 0) (s : ℕ) (m m' : Meaning) : Type 0 where
  pub same : m' ≡ with_slot m s (opened (cells_of (m'.slot s)))
  pub others : (n p : ℕ) → (D n p → ⊥) → cells_of (m'.slot s) n p ≡ cells_of (m.slot s) n p
  pub checks : (n p : ℕ) → D n p → cells_of (m'.slot s) n p ≡ Some (check_at l whole (cells_of (m.slot s)) n p)

-- the check place y of node x
abbrev pub OneCheck : Layout → ℕ → ℕ → ℕ → ℕ → Type 0
OneCheck l x y n p = CheckPlace l n p × (n ≡ x) × (p ≡ y)

-- the check places of node x below place y
abbrev pub NodeTo : Layout → ℕ → ℕ → ℕ → ℕ → Type 0
NodeTo l x y n p = CheckPlace l n p × (n ≡ x) × (p < y)

-- the check places of the nodes below x
abbrev pub NodesTo : Layout → ℕ → ℕ → ℕ → Type 0
NodesTo l x n p = CheckPlace l n p × (n < x)
