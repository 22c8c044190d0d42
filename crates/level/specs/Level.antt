-- What a level of a code over a store means.
use Rattle.std.specs.Prelude.{◌≡◌, ℕ, ◌+◌, ◌*◌, Bool, cond, ◌&&◌, ◌||◌, Some, None, Option, nat_le, nat_lt}
use Rattle.std.specs.Option.{option_or}
use Rattle.block.specs.Block.{Block, Blocks, Held}
use Rattle.block.specs.Count.{count}
use Rattle.code.specs.Word.{Coding, count_held, lowest, Has}
use Rattle.store.specs.declared.kinds.Shape.{Shape}
use Rattle.store.specs.Meaning.{Nodes, Cells, Slot, Rule, Meaning, vacant}
use Rattle.store.specs.Meaning.Slot.{empty, opened, sealed}
use Rattle.stripe_map.specs.declared.layout.Layout.{Layout}
use Rattle.stripe_map.specs.declared.layout.Stripe.{Stripe}
use Rattle.stripe_map.specs.Map.{node_of, place_of, stripe_of, block_of, Among}

-- the nodes and slots of the store beneath, and the places of the data
abbrev pub level_shape : Layout → Shape → Shape
level_shape l h = record { nodes = h.nodes; places = l.k * l.lanes; slots = h.slots }

-- how many blocks of a stripe a rule covers against the lost nodes
abbrev pub covered_of : Layout → Rule → Stripe → Nodes → ℕ
covered_of l rule s d = count (λ c. rule (node_of l s c) (place_of l s c) d) (l.k + l.m)

-- a block is covered if it is beneath, or at least k blocks of its stripe are
abbrev pub level_covers : Layout → Rule → Rule
level_covers l rule n p d = rule n p d || nat_le l.k (covered_of l rule (stripe_of l n p) d)

-- the blocks of a stripe that the store beneath has
abbrev pub held_of : Layout → Cells → Stripe → Held
held_of l c s i = cond (nat_lt i (l.k + l.m)) (c (node_of l s i) (place_of l s i)) None

-- block i of the word of the held blocks, if there are k or more
abbrev pub restored : Layout → (Held → Blocks) → Held → ℕ → Option Block
restored l whole h i = cond (nat_le l.k (count_held h (l.k + l.m))) (Some (whole (lowest l.k h) i)) None

-- the level's own cells: the data, not the checks
abbrev pub inside : Layout → ℕ → ℕ → Bool
inside l n p = nat_lt n l.nodes && nat_lt p (l.k * l.lanes)

-- in an open slot, what lies beneath
abbrev pub open_cells : Layout → Cells → Cells
open_cells l c n p = cond (inside l n p) (c n p) None

-- in a sealed slot, what lies beneath, or else what the stripe gives
abbrev pub sealed_cells : Layout → (Held → Blocks) → Cells → Cells
sealed_cells l whole c n p =
    cond (inside l n p) (option_or (c n p) (restored l whole (held_of l c (stripe_of l n p)) (block_of l p))) None

abbrev pub level_slot : Layout → (Held → Blocks) → Slot → Slot
level_slot l whole empty = empty
level_slot l whole (opened c) = opened (open_cells l c)
level_slot l whole (sealed d c) = sealed d (sealed_cells l whole c)

-- THE MEANING OF A LEVEL, from that of the store beneath
abbrev pub level : Layout → (Held → Blocks) → Meaning → Meaning
level l whole m = record {
  shape = level_shape l m.shape;
  covers = level_covers l m.covers;
  slot = λ s. level_slot l whole (m.slot s);
}

-- with every slot empty
abbrev pub new_level : Layout → Meaning → Meaning
new_level l m = vacant (level_shape l m.shape) (level_covers l m.covers)

-- a word that has every block of the stripe that the store beneath has
pub record StripeWord (l : Layout) (Word : Blocks → Type 0) (c : Cells) (s : Stripe) : Type 0 where
  pub blocks : Blocks
  pub word : Word blocks
  pub has : Has (l.k + l.m) blocks (held_of l c s)

abbrev pub SlotWords : Layout → (Blocks → Type 0) → Slot → Type 0
SlotWords l Word empty = Unit {0}
SlotWords l Word (opened c) = Unit {0}
SlotWords l Word (sealed d c) = (s : Stripe) → Among l s → StripeWord l Word c s

-- the store beneath has the layout's nodes, and a place for every block
pub record Fits (l : Layout) (h : Shape) : Type 0 where
  pub nodes : l.nodes ≡ h.nodes
  pub places : (l.k + l.m) * l.lanes ≡ h.places

-- the layout is for the code and for the store beneath
pub record Matches (l : Layout) (c : Coding) (h : Shape) : Type 0 where
  pub data_blocks : l.k ≡ c.k
  pub check_blocks : l.m ≡ c.m
  pub fits : Fits l h

-- a store beneath as the calls of a level leave it: in every sealed slot each stripe has a word
pub record Laid (l : Layout) (c : Coding) (below : Meaning) : Type 0 where
  pub matches : Matches l c below.shape
  pub words : (s : ℕ) → SlotWords l c.Word (below.slot s)
