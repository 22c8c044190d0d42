-- What a level has read of a stripe, and what it answers then.
use Rattle.std.specs.Prelude.{◌≡◌, ℕ, ◌<◌, Bool, true, false, not, List, is_some, None, Ok, Err, Option, Result, ◌==◌}
use Rattle.std.specs.Option.{unwrap_or}
use Rattle.refusal.specs.Number.{number_of}
use Rattle.refusal.specs.Answer.{refuse, Turns}
use Rattle.refusal.specs.declared.kind.Refusal.{Refusal}
use Rattle.refusal.specs.declared.kind.Refusal.TheVariants.{Missing}
use Rattle.block.specs.Block.{Block}
use Rattle.code.specs.Calls.{marked}
use Rattle.code.specs.Word.{Coding}
use Rattle.store.specs.Meaning.{Slot, Meaning}
use Rattle.store.specs.Meaning.Slot.{empty, opened, sealed}
use Rattle.store.specs.Calls.{cells_of}
use Rattle.stripe_map.specs.declared.layout.Layout.{Layout}
use Rattle.stripe_map.specs.declared.layout.Stripe.{Stripe}
use Rattle.stripe_map.specs.Map.{stripe_of, block_of}
use Rattle.level.specs.Level.{held_of, restored}

-- marks and bytes have the blocks of a stripe below a number
abbrev pub Gathered : Layout → Meaning → ℕ → Stripe → ℕ → List ℕ → List ℕ → Type 0
Gathered l m s x count marks bytes = (i : ℕ) → i < count → marked marks bytes i ≡ held_of l (cells_of (m.slot s)) x i

-- what the stripe of a cell gives for it
abbrev pub from_stripe : Layout → Coding → Meaning → ℕ → ℕ → ℕ → Option Block
from_stripe l c m s n p = restored l c.whole (held_of l (cells_of (m.slot s)) (stripe_of l n p)) (block_of l p)

-- the block, or a refusal that names the cell
abbrev pub RestoreAnswer : Option Block → ℕ → ℕ → List ℕ → Result Unit Refusal → List ℕ → Type 0
RestoreAnswer o n p old r new = Turns (refuse (not (is_some o)) (Missing n p) None) old (unwrap_or o old) r new

-- a refusal of the code, as one that names the cell
abbrev pub named : ℕ → ℕ → Result Unit Refusal → Result Unit Refusal
named n p (Ok x) = Ok tt
named n p (Err f) = Err (Missing n p)

-- a cell was refused as absent or a gap
abbrev pub is_missing : Result Unit Refusal → Bool
is_missing (Ok x) = false
is_missing (Err f) = number_of f == 7

abbrev pub is_sealed : Slot → Bool
is_sealed empty = false
is_sealed (opened c) = false
is_sealed (sealed d c) = true
