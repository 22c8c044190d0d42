-- Clearing slot after slot, and the level that is laid then. Assumes nothing.
use Rattle.std.proofs.Common.{◌≡◌, ℕ, ◌+◌, ◌<◌, ◌≤◌, cond, eqb, ltb, Result, sym, ap, ◌∙◌, subst, arith}
use Rattle.std.proofs.lemmas.Bool.{lt-leb}
use Rattle.std.proofs.lemmas.Bool.Decides.{nat_tests}
use Rattle.refusal.specs.declared.kind.Refusal.{Refusal}
use Rattle.refusal.specs.declared.kind.Refusal.TheVariants.{Slot as BadSlot}
use Rattle.refusal.proofs.Turning.{turned, refuse_later}
use Rattle.code.specs.Word.{Coding}
use Rattle.store.specs.Meaning.{Meaning, Lawful, vacant}
use Rattle.store.specs.Meaning.Slot.{empty}
use Rattle.store.specs.Calls.{clearing, ClearAnswer}
use Rattle.stripe_map.specs.declared.layout.Layout.{Layout}
use Rattle.level.specs.Level.{level, new_level, Laid, Matches}
use Rattle.level.specs.Clearing.{cleared_to}
use Rattle.level.proofs.Ways.{by_slots}

pub clear_none : (m : Meaning) → m ≡ cleared_to 0 m
clear_none m = by_slots m m.slot (cleared_to 0 m).slot (λ t. grind (arith, nat_tests))

pub clear_more : (m b b' : Meaning) (s : ℕ) (r : Result Unit Refusal) → s < m.shape.slots → b ≡ cleared_to s m → ClearAnswer b s r b' → b' ≡ cleared_to (s + 1) m
clear_more m b b' s r h e q =
    turned _ _ _ _ _ q (refuse_later _ BadSlot _ (lt-leb b.shape.slots s (subst (λ y. s < y.shape.slots) (sym e) h)))
    ∙ ap (λ y. clearing y s) e ∙ by_slots m (clearing (cleared_to s m) s).slot (cleared_to (s + 1) m).slot at
  where
    at : (t : ℕ) → cond (eqb t s) empty (cond (ltb t s) empty (m.slot t)) ≡ cond (ltb t (s + 1)) empty (m.slot t)
    at t = grind (arith, nat_tests)

pub clear_all : (m : Meaning) (s : ℕ) → Lawful m → m.shape.slots ≤ s → cleared_to s m ≡ vacant m.shape m.covers
clear_all m s L h = by_slots m (cleared_to s m).slot (λ t. empty) (λ t. grind (arith, nat_tests, L.past t))

module _ (l : Layout) (K : Coding) (m b : Meaning) (e : b ≡ vacant m.shape m.covers) where
  pub new_laid : Matches l K m.shape → Laid l K b
  new_laid a = subst (Laid l K) (sym e) (record { matches = a; words = λ s. tt })

  pub new_means : level l K.whole b ≡ new_level l m
  new_means = ap (level l K.whole) e
