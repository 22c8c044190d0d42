-- How a refusal, or none, becomes a call's answer, and what the call leaves.
use Rattle.std.specs.Prelude.{◌≡◌, ℕ, zero, suc, Bool, cond, Some, None, Ok, Err, Option, Result}
use Rattle.std.specs.Option.{option_or}
use Rattle.refusal.specs.declared.kind.Refusal.{Refusal}

-- refused by f if the test holds, else as the rest says: of several refusals the first
abbrev pub refuse : Bool → Refusal → Option Refusal → Option Refusal
refuse test f rest = cond test (Some f) rest

-- the answer of a call that gives a where it is not refused
abbrev pub outcome : {A : Type 0} → Option Refusal → A → Result A Refusal
outcome None a = Ok a
outcome (Some f) a = Err f

-- what a call leaves: as it was where it is refused
abbrev pub unless : {A : Type 0} → Option Refusal → A → A → A
unless None was becomes = becomes
unless (Some f) was becomes = was

-- a call that is refused as f says, and else turns what was into what it becomes: r is its answer, and `is` what it leaves
pub record Turns {S : Type 0} (f : Option Refusal) (was becomes : S) (r : Result Unit Refusal) (is : S) : Type 0 where
  pub answer : r ≡ outcome f tt
  pub leaves : is ≡ unless f was becomes

-- what a call leaves, by a property: as it was where it is refused, else something with the property
abbrev pub Left : {S : Type 0} → Option Refusal → S → (S → Type 0) → S → Type 0
Left None was P is = P is
Left (Some f) was P is = is ≡ was

-- a call that is refused as f says, and else leaves something with the property
pub record Does {S : Type 0} (f : Option Refusal) (was : S) (P : S → Type 0) (r : Result Unit Refusal) (is : S) : Type 0 where
  pub answer : r ≡ outcome f tt
  pub leaves : Left f was P is

-- of the refusals at the numbers below n, the first
abbrev pub first : (ℕ → Option Refusal) → ℕ → Option Refusal
first f zero = None
first f (suc n) = option_or (first f n) (f n)
