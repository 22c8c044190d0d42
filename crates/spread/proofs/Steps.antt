-- Writing the checks of a slot, step by step. Assumes nothing.
use Rattle.std.proofs.Common.{ℕ, List}
use Rattle.code.specs.Word.{Coding}
use Rattle.store.specs.Meaning.{Meaning}
use Rattle.stripe_map.specs.declared.layout.Layout.{Layout}
use Rattle.level.specs.Checks.{Ready, Written}
use Rattle.spread.specs.declared.Spread.{Spread}
use Rattle.spread.specs.Writing.{Writes}

-- a level that wrote the checks at D, and then those at E
pub writes_more : {C S : Type 0} (coding : C → Coding) (stands : S → Type 0) (meaning : S → Meaning) (D F : ℕ → ℕ → Type 0) (E : Layout → ℕ → ℕ → Type 0) (slot : ℕ) (bytes : List ℕ) (was is then : Spread C S)
    → (Ready was.layout (meaning was.below) slot bytes → Written was.layout (coding was.code).whole D slot (meaning was.below) (meaning is.below)
    → (Ready was.layout (meaning is.below) slot bytes → Written was.layout (coding was.code).whole (E was.layout) slot (meaning is.below) (meaning then.below))
    → Written was.layout (coding was.code).whole F slot (meaning was.below) (meaning then.below))
    → Writes coding stands meaning D slot bytes was is → Writes coding stands meaning (E is.layout) slot bytes is then → Writes coding stands meaning F slot bytes was then
writes_more coding stands meaning D F E slot bytes was is then both u v = record {
  others = rw u.others at v.others;
  sound = λ h. v.sound (u.sound h);
  written = λ h r. both r (u.written h r) (rw u.others at (v.written (u.sound h)));
}
