-- The making of a code: which sizes are admitted, and what a making answers.
use Rattle.std.specs.Prelude.{◌≡◌, ℕ, Bool, true, false, ◌&&◌, Ok, Err, Result, nat_le}
use Rattle.refusal.specs.declared.kind.Refusal.{Refusal}
use Rattle.refusal.specs.declared.kind.Refusal.TheVariants.{Sizes}

-- k from 1 to 12 and m from 1 to 4
abbrev pub admitted : ℕ → ℕ → Bool
admitted k m = (nat_le 1 k && nat_le k 12) && (nat_le 1 m && nat_le m 4)

-- refused for the sizes exactly where they are not admitted, else a value of the kind P
abbrev pub Makes : {C : Type 0} → Bool → (C → Type 0) → Result C Refusal → Type 0
Makes ok P (Ok c) = (ok ≡ true) × P c
Makes ok P (Err f) = (ok ≡ false) × (f ≡ Sizes)
