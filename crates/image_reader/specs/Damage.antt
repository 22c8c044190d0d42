-- What damages an image: a head or a record that breaks the format.
use Rattle.std.specs.Prelude.{ℕ, zero, suc, ◌+◌, ◌*◌, Bool, true, false, cond, not, ◌&&◌, ◌||◌, List, length, None, Option, ◌==◌, nat_eq, nat_le, slice_index}
use Rattle.std.specs.Option.{option_or}
use Rattle.refusal.specs.Answer.{refuse, first}
use Rattle.refusal.specs.declared.kind.Refusal.{Refusal}
use Rattle.refusal.specs.declared.kind.Refusal.TheVariants.{Damaged}
use Rattle.store.specs.declared.kinds.Shape.{Shape}
use Rattle.store.specs.declared.kinds.State.{State}
use Rattle.store.specs.declared.kinds.State.TheVariants.{Empty, Open, Sealed}
use Rattle.grid.specs.Index.{index, table_refusal}
use Rattle.image_format.specs.Image.{start, size, record_at, head_at, marks_of}

-- of the numbers below n, all pass, or some does
abbrev pub all_below : (ℕ → Bool) → ℕ → Bool
all_below f zero = true
all_below f (suc n) = all_below f n && f n

abbrev pub some_below : (ℕ → Bool) → ℕ → Bool
some_below f zero = false
some_below f (suc n) = some_below f n || f n

-- nothing but zeros
abbrev pub zeros : List ℕ → Bool
zeros bytes = all_below (λ j. nat_eq (slice_index bytes j) 0) (length bytes)

-- a head: the state, which is 0, 1 or 2, and seven zeros
abbrev pub good_head : List ℕ → Bool
good_head head = nat_le (slice_index head 0) 2 && all_below (λ j. nat_eq (slice_index head (1 + j)) 0) 7

-- a record begins as that of a present cell does: 1, slot, node, place and four zeros
abbrev pub headed : ℕ → ℕ → ℕ → List ℕ → Bool
headed s n p bytes =
    (slice_index bytes 0 == 1) && (slice_index bytes 1 == s && (slice_index bytes 2 == n && (slice_index bytes 3 == p && all_below (λ j. nat_eq (slice_index bytes (4 + j)) 0) 4)))

abbrev pub present : Shape → List ℕ → ℕ → ℕ → ℕ → Bool
present h img s n p = headed s n p (record_at h img (index h s n p))

abbrev pub is_empty : State → Bool
is_empty Empty = true
is_empty Open = false
is_empty Sealed = false

abbrev pub is_sealed : State → Bool
is_sealed Empty = false
is_sealed Open = false
is_sealed Sealed = true

-- a present cell breaks the rules in an empty slot; any other record if it is not 72 zeros, and in a sealed slot if its node
-- has a present cell there
abbrev pub bad_cell : Shape → List ℕ → ℕ → ℕ → ℕ → Bool
bad_cell h img s n p =
    cond (present h img s n p) (is_empty (marks_of h img s))
    (not (zeros (record_at h img (index h s n p))) || (is_sealed (marks_of h img s) && some_below (present h img s n) h.places))

-- the lowest head that breaks the rules, or else the lowest record
abbrev pub head_damage_at : List ℕ → ℕ → Option Refusal
head_damage_at img s = refuse (not (good_head (head_at img s))) (Damaged (8 * s)) None

abbrev pub head_damage : Shape → List ℕ → Option Refusal
head_damage h img = first (head_damage_at img) h.slots

abbrev pub record_damage : Shape → List ℕ → ℕ → ℕ → ℕ → Option Refusal
record_damage h img s n p = refuse (bad_cell h img s n p) (Damaged (start h (index h s n p))) None

abbrev pub node_damage : Shape → List ℕ → ℕ → ℕ → Option Refusal
node_damage h img s n = first (record_damage h img s n) h.places

abbrev pub slot_damage : Shape → List ℕ → ℕ → Option Refusal
slot_damage h img s = first (node_damage h img s) h.nodes

abbrev pub damage : Shape → List ℕ → Option Refusal
damage h img = option_or (head_damage h img) (first (slot_damage h img) h.slots)

-- the sizes first, then the damage
abbrev pub image_refusal : Shape → List ℕ → Option Refusal
image_refusal h img = option_or (table_refusal h (size h) (length img)) (damage h img)
