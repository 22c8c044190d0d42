-- A loop that ends at the first refusal. Assumes nothing.
use Rattle.std.proofs.Common.{◌≡◌, ℕ, ◌+◌, ◌<◌, is_some, IsErrAnd, Some, None, Ok, Err, Option, Result, sym, ap, ◌∙◌}
use Rattle.std.proofs.lemmas.Result.{err_from_is_err_and}
use Rattle.refusal.specs.Answer.{outcome, first}
use Rattle.refusal.specs.declared.kind.Refusal.{Refusal}
use Rattle.refusal.proofs.First.{first_more, first_found}
use Rattle.refusal.proofs.Turning.{outcome_refused, outcome_done}

-- the answer of a call that is refused by f or not at all
abbrev pub Said : Option Refusal → Result Unit Refusal → Type 0
Said f r = r ≡ outcome f tt

module _ (f : ℕ → Option Refusal) (i : ℕ) where
  pub stops_at : (n : ℕ) (x : Refusal) → first f i ≡ None → Said (f i) (Err x) → i < n → Said (first f n) (Err x)
  stops_at n x none e l =
      let here : f i ≡ Some x = outcome_refused (f i) tt x (sym e) in
      ap (λ o. outcome o tt) (sym (first_found f i n none (ap is_some here) l ∙ here))

  pub goes_on : first f i ≡ None → Said (f i) (Ok tt) → first f (i + 1) ≡ None
  goes_on none e = first_more f i none (outcome_done (f i) tt tt (sym e))

  -- the same where a `?` hands the refusal on
  pub handed_on : (n : ℕ) (x : Refusal) (r : Result Unit Refusal) → IsErrAnd r (λ y. y ≡ x) → first f i ≡ None → Said (f i) (Err x) → i < n → Said (first f n) r
  handed_on n x r e none s l =
      let p = err_from_is_err_and r e in
      rw (p.1, p.2) (stops_at n x none s l)
