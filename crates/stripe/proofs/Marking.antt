-- The marks of all blocks.
use Rattle.std.proofs.Common.{◌≡◌, ℕ, Bool, true, false, cond, eqb, List, map, get_or, refl, ap, ◌∙◌, zero-add, arith}
use Rattle.std.proofs.lemmas.Bool.{eq-eqb}
use Rattle.std.proofs.lemmas.Grind.{common_steps}
use Rattle.std.proofs.lemmas.List.FromFn.{length-map-range_with_len, get_or-map-range_with_len}
use Rattle.std.proofs.lemmas.List.Folds.{list_any_at, Any-from_list_any}
use Rattle.std.specs.List.{list_any, range_with_len}
use Rattle.stripe.specs.Lost.{Among, mark, Marks}

-- a number that is found is among them
found : (lost : List ℕ) (i : ℕ) → list_any (λ x. eqb x i) lost ≡ true → Among lost i
found lost i e = let a = Any-from_list_any (λ x. eqb x i) lost e in (a.0, a.2, grind (arith, common_steps))

kept : (lost : List ℕ) (i : ℕ) (b : Bool) → list_any (λ x. eqb x i) lost ≡ b → (Among lost i → ⊥) → cond {A = ℕ} b 0 1 ≡ 1
kept lost i true e out = absurd (out (found lost i e))
kept lost i false e out = refl

pub all_marked : (lost : List ℕ) (n : ℕ) → Marks lost (map (mark lost) (range_with_len 0 n)) n
all_marked lost n =
    record {
      long = length-map-range_with_len (mark lost) 0 n;
      gone = λ i h a.
          get_or-map-range_with_len (mark lost) 0 n i i 0 h (zero-add i)
          ∙ ap (λ b. cond b 0 1) (list_any_at (λ x. eqb x i) lost a.0 0 a.1 (eq-eqb (get_or lost a.0 0) i a.2));
      kept = λ i h out. get_or-map-range_with_len (mark lost) 0 n i i 0 h (zero-add i) ∙ kept lost i (list_any (λ x. eqb x i) lost) refl out;
    }
