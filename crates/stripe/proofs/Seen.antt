-- Nodes that are lost one after the other, a rank that came back, and the fates of its cells.
use Rattle.std.proofs.Common.{◌≡◌, ℕ, ◌+◌, ◌<◌, Bool, true, List, [], ◌∷◌, ◌++◌, length, get_or, take, None, Ok, fold, sym, refl, ap, ◌∙◌, subst, map, zero-add}
use Rattle.std.proofs.lemmas.List.{take_more}
use Rattle.std.proofs.lemmas.List.FromFn.{length-map-range_with_len, get_or-map-range_with_len}
use Rattle.std.specs.List.{range_with_len}
use Rattle.refusal.proofs.Turning.{outcome_done, turned}
use Rattle.store.specs.Meaning.{Meaning}
use Rattle.store.specs.Calls.{get_refusal, lose_refusal, losing, LoseAnswer}
use Rattle.store.specs.Rank.{rank_refusal, RankAnswer}
use Rattle.stripe.specs.declared.level_report.Fate.{Fate}
use Rattle.stripe.specs.declared.level_report.Fate.TheVariants.{Gap}
use Rattle.stripe.specs.Seen.{fate_of, Fates, CameBack}

folded_more : {A B : Type 0} (f : B → A → B) (a : B) (xs : List A) (x : A) → fold f a (xs ++ x ∷ []) ≡ f (fold f a xs) x
folded_more f a [] x = refl
folded_more f a (z ∷ xs) x = folded_more f (f a z) xs x

-- one more node is lost
pub lost_more :
    (was old new : Meaning) (nodes : List ℕ) (i : ℕ) → i < length nodes → old ≡ fold losing was (take i nodes)
    → LoseAnswer old (get_or nodes i 0) (Ok tt) new → new ≡ fold losing was (take (i + 1) nodes)
lost_more was old new nodes i inside before lose =
    let n = get_or nodes i 0 in
    let none : lose_refusal old n ≡ None = outcome_done (lose_refusal old n) tt tt (sym lose.answer) in
    turned (lose_refusal old n) old (losing old n) (Ok tt) new lose none ∙ ap (λ m. losing m n) before
    ∙ sym (folded_more losing was (take i nodes) n) ∙ sym (ap (fold losing was) (take_more nodes i 0 inside))

-- the file that was read is what was written
pub came_back :
    (m : Meaning) (n : ℕ) (old new written : List ℕ) → RankAnswer m 0 n old (Ok tt) new → length old ≡ length written → new ≡ written
    → CameBack m n written true
came_back m n old new written read long same =
    let none : rank_refusal m 0 n (length old) ≡ None = outcome_done (rank_refusal m 0 n (length old)) tt tt (sym read.answer) in (
      subst (λ len. rank_refusal m 0 n len ≡ None) long none,
      sym (turned (rank_refusal m 0 n (length old)) old _ (Ok tt) new read none) ∙ same,
    )

-- the fates of all places
pub all_fates :
    (m : Meaning) (n : ℕ) (lost : Bool) (k : ℕ)
    → Fates m n lost k (map (λ p. fate_of (get_refusal m 0 n p 64) lost) (range_with_len 0 k))
all_fates m n lost k =
    let fate : ℕ → Fate = λ p. fate_of (get_refusal m 0 n p 64) lost in
    record {
      long = length-map-range_with_len fate 0 k;
      each = λ p h. get_or-map-range_with_len fate 0 k p p Gap h (zero-add p);
    }
