-- The stripe map: where the blocks of a stripe lie, and which block lies where.
use Rattle.std.specs.Prelude.{ℕ, ◌+◌, ◌-◌, ◌*◌, ◌/◌, ◌%◌, ◌<◌, Bool, not, ◌&&◌, None, Option, nat_le, nat_lt}
use Rattle.refusal.specs.Answer.{refuse}
use Rattle.refusal.specs.declared.kind.Refusal.{Refusal}
use Rattle.refusal.specs.declared.kind.Refusal.TheVariants.{Node, Place, Sizes, BlockNumber}
use Rattle.stripe_map.specs.declared.layout.Layout.{Layout}
use Rattle.stripe_map.specs.declared.layout.Stripe.{Stripe}
use Rattle.stripe_map.specs.declared.layout.Member.{Member}
use Rattle.stripe_map.specs.declared.layout.Address.{Address}

-- block c of a stripe lies on member (first + c) mod G of its group
unfoldable pub node_of : Layout → Stripe → ℕ → ℕ
node_of l s c = s.group * l.group + (s.first + c) % l.group

-- at place c × L + lane
unfoldable pub place_of : Layout → Stripe → ℕ → ℕ
place_of l s c = c * l.lanes + s.lane

-- and back: the stripe of the block at a node and a place
unfoldable pub stripe_of : Layout → ℕ → ℕ → Stripe
stripe_of l n p = record { group = n / l.group; first = (n % l.group + (l.group - p / l.lanes)) % l.group; lane = p % l.lanes }

-- and its number there
unfoldable pub block_of : Layout → ℕ → ℕ
block_of l p = p / l.lanes

abbrev pub address_of : Layout → Stripe → ℕ → Address
address_of l s c = record { node = node_of l s c; place = place_of l s c }

abbrev pub member_of : Layout → ℕ → ℕ → Member
member_of l n p = record { stripe = stripe_of l n p; number = block_of l p }

-- the stripes of a layout
pub record Among (l : Layout) (s : Stripe) : Type 0 where
  pub group : s.group < l.nodes / l.group
  pub first : s.first < l.group
  pub lane : s.lane < l.lanes

-- the same as a test
abbrev pub among : Layout → Stripe → Bool
among l s = nat_lt s.group (l.nodes / l.group) && (nat_lt s.first l.group && nat_lt s.lane l.lanes)

-- no such stripe, or no such block of it
abbrev pub locate_refusal : Layout → Stripe → ℕ → Option Refusal
locate_refusal l s c = refuse (not (among l s)) Sizes (refuse (nat_le (l.k + l.m) c) BlockNumber None)

-- no such node or place beneath the level
abbrev pub trace_refusal : Layout → ℕ → ℕ → Option Refusal
trace_refusal l n p = refuse (nat_le l.nodes n) Node (refuse (nat_le ((l.k + l.m) * l.lanes) p) Place None)
