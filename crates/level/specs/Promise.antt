-- What a level promises.
use Rattle.std.specs.Prelude.{◌≡◌, ℕ, ◌+◌, ◌<◌, ◌≤◌, true, ◌⊎◌, Some}
use Rattle.block.specs.Block.{Blocks}
use Rattle.store.specs.Meaning.{Nodes, Cells, Meaning, Within}
use Rattle.store.specs.Meaning.Slot.{sealed}
use Rattle.store.specs.Calls.{cells_of}
use Rattle.stripe_map.specs.declared.layout.Layout.{Layout}
use Rattle.stripe_map.specs.declared.layout.Stripe.{Stripe}
use Rattle.stripe_map.specs.Map.{node_of, place_of, stripe_of, block_of, Among}
use Rattle.level.specs.Level.{covered_of}

-- one word of the code for a stripe of a sealed slot: c is what the store beneath has, u what the level has
pub record OneWord (l : Layout) (Word : Blocks → Type 0) (below level : Meaning) (d : Nodes) (c u : Cells) (s : Stripe) : Type 0 where
  pub word : Blocks
  pub is_word : Word word
  -- the blocks that the store beneath covers belong to it
  pub below_has : (i : ℕ) → i < l.k + l.m → below.covers (node_of l s i) (place_of l s i) d ≡ true → c (node_of l s i) (place_of l s i) ≡ Some (word i)
  -- the level's blocks are its data
  pub level_has : (i : ℕ) → i < l.k → level.covers (node_of l s i) (place_of l s i) d ≡ true → u (node_of l s i) (place_of l s i) ≡ Some (word i)

-- THE LEVEL'S PROMISE
pub record LevelPromise (l : Layout) (Word : Blocks → Type 0) (below level : Meaning) : Type 0 where
  -- against every set of lost nodes it covers a block exactly when the store beneath covers it, or at least k blocks of its stripe
  pub only_covers : (n p : ℕ) (d : Nodes) → Within level.shape n p → level.covers n p d ≡ true
      → (below.covers n p d ≡ true) ⊎ (l.k ≤ covered_of l below.covers (stripe_of l n p) d)
  pub covers_below : (n p : ℕ) (d : Nodes) → Within level.shape n p → below.covers n p d ≡ true → level.covers n p d ≡ true
  pub covers_stripe : (n p : ℕ) (d : Nodes) → Within level.shape n p → l.k ≤ covered_of l below.covers (stripe_of l n p) d → level.covers n p d ≡ true
  -- in a sealed slot, the blocks that the store beneath covers of a stripe belong to one word, and the level's blocks are its data
  pub words : (s : ℕ) (d : Nodes) (c : Cells) → below.slot s ≡ sealed d c → (st : Stripe) → Among l st → OneWord l Word below level d c (cells_of (level.slot s)) st
  -- a block of the level lies where its stripe has it, and a block of a stripe is that stripe's
  pub lies : (n p : ℕ) → Within level.shape n p → Among l (stripe_of l n p) × (node_of l (stripe_of l n p) (block_of l p) ≡ n) × (place_of l (stripe_of l n p) (block_of l p) ≡ p)
  pub back : (s : Stripe) (c : ℕ) → Among l s → c < l.k + l.m → (stripe_of l (node_of l s c) (place_of l s c) ≡ s) × (block_of l (place_of l s c) ≡ c)
