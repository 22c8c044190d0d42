-- A store whose first slots were cleared.
use Rattle.std.specs.Prelude.{ℕ, cond, nat_lt}
use Rattle.store.specs.Meaning.{Meaning}
use Rattle.store.specs.Meaning.Slot.{empty}

-- those below i
abbrev pub cleared_to : ℕ → Meaning → Meaning
cleared_to i m = record { shape = m.shape; covers = m.covers; slot = λ t. cond (nat_lt t i) empty (m.slot t) }
