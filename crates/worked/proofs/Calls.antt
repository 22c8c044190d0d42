-- The calls on the worked image: none is refused. Assumes nothing.
use Rattle.std.proofs.Common.{◌≡◌, ℕ, replicate, None, Ok, Err, Option, Result, refl, ap, ◌∙◌, arith}
use Rattle.refusal.specs.declared.kind.Refusal.{Refusal}
use Rattle.refusal.specs.Answer.{outcome, Turns}
use Rattle.refusal.proofs.Turning.{turned}
use Rattle.store.specs.Meaning.{Meaning, vacant, bare}
use Rattle.store.specs.Calls.{opening, putting, sealing, losing, open_refusal, put_refusal, seal_refusal, lose_refusal, OpenAnswer, PutAnswer, SealAnswer, LoseAnswer}
use Rattle.image_reader.specs.Example.{small, hurt}

-- what the file means after each call but the last
abbrev pub after_open : Meaning
after_open = opening (vacant small bare) 0

abbrev pub after_put : Meaning
after_put = putting after_open 0 0 0 (replicate 64 7)

abbrev pub after_puts : Meaning
after_puts = putting after_put 0 1 0 (replicate 64 9)

abbrev pub after_seal : Meaning
after_seal = sealing after_puts 0

pub record Done (r : Result Unit Refusal) (is becomes : Meaning) : Type 0 where
  pub answer : r ≡ Ok tt
  pub leaves : is ≡ becomes

-- a call on what is known to mean w, where it is not refused
done : (f : Meaning → Option Refusal) (g : Meaning → Meaning) (was w is : Meaning) (r : Result Unit Refusal) → Turns (f was) was (g was) r is → was ≡ w → f w ≡ None → Done r is (g w)
done f g was w is r t e n =
    let free = ap f e ∙ n in
    record {
      answer = t.answer ∙ ap (λ o. outcome o tt) free;
      leaves = turned (f was) was (g was) r is t free ∙ ap g e;
    }

pub opened : (was is : Meaning) (r : Result Unit Refusal) → OpenAnswer was 0 r is → was ≡ vacant small bare → Done r is after_open
opened was is r t e = done (λ m. open_refusal m 0) (λ m. opening m 0) was (vacant small bare) is r t e refl

pub put_on : (was is : Meaning) (r : Result Unit Refusal) → PutAnswer was 0 0 0 (replicate 64 7) r is → was ≡ after_open → Done r is after_put
put_on was is r t e = done (λ m. put_refusal m 0 0 0 64) (λ m. putting m 0 0 0 (replicate 64 7)) was after_open is r t e refl

pub put_both : (was is : Meaning) (r : Result Unit Refusal) → PutAnswer was 0 1 0 (replicate 64 9) r is → was ≡ after_put → Done r is after_puts
put_both was is r t e = done (λ m. put_refusal m 0 1 0 64) (λ m. putting m 0 1 0 (replicate 64 9)) was after_put is r t e refl

pub sealed : (was is : Meaning) (r : Result Unit Refusal) → SealAnswer was 0 r is → was ≡ after_puts → Done r is after_seal
sealed was is r t e = done (λ m. seal_refusal m 0) (λ m. sealing m 0) was after_puts is r t e refl

pub lost : (was is : Meaning) (r : Result Unit Refusal) → LoseAnswer was 1 r is → was ≡ after_seal → Done r is hurt
lost was is r t e = done (λ m. lose_refusal m 1) (λ m. losing m 1) was after_seal is r t e refl

-- so none can have been refused
pub not_refused : {A : Type 0} (r : Result Unit Refusal) (x : Refusal) → r ≡ Ok tt → r ≡ Err x → A
not_refused r x a e = let z : ◌≡◌ {A = ℕ} 0 1 = cc in absurd (omega arith)
