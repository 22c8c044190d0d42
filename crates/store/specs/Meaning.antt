-- What a store means: its shape, its cover rule and its slots.
use Rattle.std.specs.Prelude.{◌≡◌, ℕ, ◌<◌, ◌≤◌, Bool, true, false, not, ◌&&◌, is_some, Some, Option, nat_le}
use Rattle.block.specs.Block.{Block, IsBlock}
use Rattle.store.specs.declared.kinds.Shape.{Shape}

-- a set of nodes
abbrev pub Nodes : Type 0
Nodes = ℕ → Bool

-- a block or nothing, by node and place
abbrev pub Cells : Type 0
Cells = ℕ → ℕ → Option Block

pub data Slot : Type 0 where
  empty : Slot
  -- what was put so far
  opened : Cells → Slot
  -- the nodes lost since sealing, and the blocks that are still covered
  sealed : Nodes → Cells → Slot

-- whether the cell of a node and a place is covered against a set of lost nodes
abbrev pub Rule : Type 0
Rule = ℕ → ℕ → Nodes → Bool

pub record Meaning : Type 0 where
  pub shape : Shape
  pub covers : Rule
  pub slot : ℕ → Slot

pub record Limits (s : Shape) : Type 0 where
  pub nodes_least : 2 ≤ s.nodes
  pub nodes_most : s.nodes ≤ 64
  pub places_least : 1 ≤ s.places
  pub places_most : s.places ≤ 64
  pub slots_least : 2 ≤ s.slots
  pub slots_most : s.slots ≤ 8

-- the same as a test
abbrev pub within_limits : Shape → Bool
within_limits s = nat_le 2 s.nodes && (nat_le s.nodes 64 && (nat_le 1 s.places && (nat_le s.places 64 && (nat_le 2 s.slots && nat_le s.slots 8))))

abbrev pub sized : ℕ → ℕ → ℕ → Shape
sized n p s = record { nodes = n; places = p; slots = s }

abbrev pub Within : Shape → ℕ → ℕ → Type 0
Within s n p = (n < s.nodes) × (p < s.places)

-- cells only within the shape, and every one a block
pub record Tidy (s : Shape) (c : Cells) : Type 0 where
  pub within : (n p : ℕ) → is_some (c n p) ≡ true → Within s n p
  pub blocks : (n p : ℕ) (b : Block) → c n p ≡ Some b → IsBlock b

-- a sealed slot has a block exactly at the cells that the rule covers against its lost nodes
pub record SealedLaw (s : Shape) (rule : Rule) (d : Nodes) (c : Cells) : Type 0 where
  pub tidy : Tidy s c
  pub covered : (n p : ℕ) → Within s n p → is_some (c n p) ≡ rule n p d
  pub lost : (n : ℕ) → d n ≡ true → n < s.nodes

abbrev pub LawfulSlot : Shape → Rule → Slot → Type 0
LawfulSlot s rule empty = Unit {0}
LawfulSlot s rule (opened c) = Tidy s c
LawfulSlot s rule (sealed d c) = SealedLaw s rule d c

pub record Lawful (m : Meaning) : Type 0 where
  pub limits : Limits m.shape
  -- a cell whose node is not lost is covered
  pub alive : (n p : ℕ) (d : Nodes) → Within m.shape n p → d n ≡ false → m.covers n p d ≡ true
  -- what is covered against a set is covered against every set contained in it
  pub fewer : (n p : ℕ) (d e : Nodes) → Within m.shape n p → ((x : ℕ) → e x ≡ true → d x ≡ true) → m.covers n p d ≡ true → m.covers n p e ≡ true
  pub slots : (s : ℕ) → LawfulSlot m.shape m.covers (m.slot s)
  -- past the shape there is no slot in use
  pub past : (s : ℕ) → m.shape.slots ≤ s → m.slot s ≡ empty

-- a store is bare if its rule covers exactly the nodes that are not lost
abbrev pub bare : Rule
bare n p d = not (d n)

-- a store with every slot empty
abbrev pub vacant : Shape → Rule → Meaning
vacant s rule = record { shape = s; covers = rule; slot = λ t. empty }
