-- What a level has written of the checks of a slot.
use Rattle.std.specs.Prelude.{◌≡◌, ℕ, List}
use Rattle.code.specs.Word.{Coding}
use Rattle.store.specs.Meaning.{Meaning}
use Rattle.level.specs.Level.{Laid}
use Rattle.level.specs.Checks.{Ready, Written}
use Rattle.spread.specs.declared.Spread.{Spread}

-- a level is sound: the store beneath is, and it is as the calls of the level left it
abbrev pub Sound : {C S : Type 0} → (C → Coding) → (S → Type 0) → (S → Meaning) → Spread C S → Type 0
Sound coding stands meaning x = stands x.below × Laid x.layout (coding x.code) (meaning x.below)

-- of a sound level the checks at the cells of D are written to a slot that is ready, and nothing else is changed
pub record Writes {C S : Type 0} (coding : C → Coding) (stands : S → Type 0) (meaning : S → Meaning) (D : ℕ → ℕ → Type 0) (slot : ℕ) (bytes : List ℕ) (was is : Spread C S) : Type 0 where
  pub others : is ≡ record was { below = is.below }
  pub sound : Sound coding stands meaning was → Sound coding stands meaning is
  pub written : Sound coding stands meaning was → Ready was.layout (meaning was.below) slot bytes
      → Written was.layout (coding was.code).whole D slot (meaning was.below) (meaning is.below)
