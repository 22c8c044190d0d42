-- What is seen of a level after losses.
use Rattle.std.specs.Prelude.{◌≡◌, ℕ, ◌*◌, ◌<◌, Bool, true, false, List, length, is_some, Some, None, Option, slice_index_or}
use Rattle.refusal.specs.declared.kind.Refusal.{Refusal}
use Rattle.store.specs.Meaning.{Meaning}
use Rattle.store.specs.Calls.{cells_of, get_refusal}
use Rattle.store.specs.Rank.{gathered, rank_refusal}
use Rattle.stripe_map.specs.declared.layout.Layout.{Layout}
use Rattle.stripe.specs.declared.level_report.Fate.{Fate}
use Rattle.stripe.specs.declared.level_report.Fate.TheVariants.{Direct, Rebuilt, Gap}

-- the bytes of a rank, and of all ranks, in a slot of a level
abbrev pub rank_size : Layout → ℕ
rank_size l = l.k * l.lanes * 64

abbrev pub piece_size : Layout → ℕ
piece_size l = l.nodes * rank_size l

-- a cell that a get refuses is a gap; any other is rebuilt if its node is lost
abbrev pub fate_of : Option Refusal → Bool → Fate
fate_of (Some f) lost = Gap
fate_of None true = Rebuilt
fate_of None false = Direct

-- the fates of a node's cells in the first slot, by place
pub record Fates (m : Meaning) (n : ℕ) (lost : Bool) (k : ℕ) (fates : List Fate) : Type 0 where
  pub long : length fates ≡ k
  pub each : (p : ℕ) → p < k → slice_index_or fates p Gap ≡ fate_of (get_refusal m 0 n p 64) lost

-- whether the file of a rank in the first slot came back: it can be read, and is what was written; or it is refused
abbrev pub CameBack : Meaning → ℕ → List ℕ → Bool → Type 0
CameBack m n written true =
    (rank_refusal m 0 n (length written) ≡ None) × (gathered (cells_of (m.slot 0)) n m.shape.places ≡ written)
CameBack m n written false = is_some (rank_refusal m 0 n (length written)) ≡ true
