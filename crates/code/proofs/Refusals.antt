-- A check with the right lengths and a right number is not refused, nor a rebuild that has enough held blocks too. Assumes nothing.
use Rattle.std.proofs.Common.{◌≡◌, ℕ, ◌+◌, ◌*◌, ◌<◌, ◌≤◌, Bool, true, false, not, ◌||◌, ltb, leb, List, length, None, ap, ◌∙◌, ap₂}
use Rattle.std.proofs.lemmas.Bool.{eq-eqb, le-ltb, lt-leb}
use Rattle.refusal.specs.Answer.{refuse}
use Rattle.refusal.specs.declared.kind.Refusal.TheVariants.{Length, TooFewBlocks, BlockNumber}
use Rattle.refusal.proofs.Turning.{refuse_later}
use Rattle.block.specs.Count.{count}
use Rattle.code.specs.Word.{Coding}
use Rattle.code.specs.Calls.{marks_held, check_refusal, rebuild_refusal}

pub check_accepted : (c : Coding) (e given room : ℕ) → e < c.m → given ≡ c.k * 64 → room ≡ 64 → check_refusal c e given room ≡ None
check_accepted c e given room below long block =
    refuse_later _ Length _ (ap₂ (λ x y. not x || not y) (eq-eqb given (c.k * 64) long) (eq-eqb room 64 block))
    ∙ refuse_later _ BlockNumber None (lt-leb c.m e below)

none_wrong : (a b c : Bool) → a ≡ true → b ≡ true → c ≡ true → (not a || (not b || not c)) ≡ false
none_wrong a b c p q r = ap (λ x. not x || (not b || not c)) p ∙ ap (λ x. not x || not c) q ∙ ap not r

module _ (c : Coding) (i : ℕ) (marks : List ℕ) (given room : ℕ)
    (flags : length marks ≡ c.k + c.m) (long : given ≡ (c.k + c.m) * 64) (block : room ≡ 64) where
  pub past_lengths : rebuild_refusal c i marks given room
      ≡ refuse (ltb (count (marks_held marks) (length marks)) c.k) TooFewBlocks (refuse (leb (c.k + c.m) i) BlockNumber None)
  past_lengths =
      refuse_later _ Length _ (none_wrong _ _ _ (eq-eqb (length marks) (c.k + c.m) flags) (eq-eqb given ((c.k + c.m) * 64) long) (eq-eqb room 64 block))

  pub accepted : c.k ≤ count (marks_held marks) (length marks) → i < c.k + c.m → rebuild_refusal c i marks given room ≡ None
  accepted enough below =
      past_lengths ∙ refuse_later _ TooFewBlocks _ (le-ltb (count (marks_held marks) (length marks)) c.k enough)
      ∙ refuse_later _ BlockNumber None (lt-leb (c.k + c.m) i below)
