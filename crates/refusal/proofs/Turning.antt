-- A call's turn, where it is refused and where it is not. Assumes nothing.
use Rattle.std.proofs.Common.{◌≡◌, ℕ, Bool, true, false, cond, Some, None, Ok, Err, Option, Result, sym, refl, ap, ◌∙◌, subst, arith}
use Rattle.refusal.specs.declared.kind.Refusal.{Refusal}
use Rattle.refusal.specs.Answer.{refuse, outcome, unless, Turns}

pub refuse_here : (test : Bool) (f : Refusal) (rest : Option Refusal) → test ≡ true → refuse test f rest ≡ Some f
refuse_here test f rest t = ap (λ b. cond b (Some f) rest) t

pub refuse_later : (test : Bool) (f : Refusal) (rest : Option Refusal) → test ≡ false → refuse test f rest ≡ rest
refuse_later test f rest t = ap (λ b. cond b (Some f) rest) t

pub turns_refused : {S : Type 0} (f : Option Refusal) (x : Refusal) (was becomes : S) → f ≡ Some x → Turns f was becomes (Err x) was
turns_refused f x was becomes e =
    subst (λ o. Turns o was becomes (Err x) was) (sym e) (record { answer = refl; leaves = refl })

pub turns_done : {S : Type 0} (f : Option Refusal) (was becomes is : S) → f ≡ None → is ≡ becomes → Turns f was becomes (Ok tt) is
turns_done f was becomes is e s =
    subst (λ o. Turns o was becomes (Ok tt) is) (sym e) (record { answer = refl; leaves = s })

-- what a call leaves where it is not refused
pub turned : {S : Type 0} (f : Option Refusal) (was becomes : S) (r : Result Unit Refusal) (is : S) → Turns f was becomes r is → f ≡ None → is ≡ becomes
turned f was becomes r is t e = t.leaves ∙ ap (λ o. unless o was becomes) e

-- what an answer tells of the refusal
pub outcome_refused : {A : Type 0} (f : Option Refusal) (a : A) (x : Refusal) → outcome f a ≡ Err x → f ≡ Some x
outcome_refused None a x e = let z : ◌≡◌ {A = ℕ} 0 1 = cc in absurd (omega arith)
outcome_refused (Some y) a x e = cc

pub outcome_done : {A : Type 0} (f : Option Refusal) (a b : A) → outcome f a ≡ Ok b → f ≡ None
outcome_done None a b e = refl
outcome_done (Some y) a b e = let z : ◌≡◌ {A = ℕ} 0 1 = cc in absurd (omega arith)

-- a test that did not refuse
pub refuse_not : (test : Bool) (f : Refusal) (rest : Option Refusal) → refuse test f rest ≡ None → test ≡ false
refuse_not true f rest e = let z : ◌≡◌ {A = ℕ} 0 1 = cc in absurd (omega arith)
refuse_not false f rest e = refl

pub refuse_rest : (test : Bool) (f : Refusal) (rest : Option Refusal) → refuse test f rest ≡ None → rest ≡ None
refuse_rest test f rest e = sym (refuse_later test f rest (refuse_not test f rest e)) ∙ e

-- and what it gives
pub outcome_value : {A : Type 0} (f : Option Refusal) (a b : A) → outcome f a ≡ Ok b → a ≡ b
outcome_value None a b e = cc
outcome_value (Some y) a b e = let z : ◌≡◌ {A = ℕ} 0 1 = cc in absurd (omega arith)
