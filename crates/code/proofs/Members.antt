-- Lists of different numbers, and the tests that choose them. Assumes nothing.
use Rattle.std.proofs.Common.{◌≡◌, ℕ, ◌+◌, ◌<◌, Bool, true, false, ◌||◌, eqb, List, [], ◌∷◌, length, sym, refl, ◌∙◌, subst, ap₂, ⊎_elim, arith}
use Rattle.std.specs.List.{AllByRecursion}
use Rattle.std.proofs.lemmas.Bool.{eq-eqb, eqb-true, or_cases, or_left, or_right, false≢true}
use Rattle.block.specs.Count.{count}
use Rattle.block.proofs.Counts.{count_none, count_one, count_or}
use Rattle.code.specs.Word.{Distinct}

abbrev pub member : List ℕ → ℕ → Bool
member [] i = false
member (n ∷ ns) i = eqb i n || member ns i

not_member : (ns : List ℕ) (a i : ℕ) → AllByRecursion (λ y. a ≡ y → ⊥) ns → i ≡ a → member ns i ≡ true → ⊥
not_member [] a i o e t = false≢true t
not_member (n ∷ ns) a i o e t = ⊎_elim (λ q. o.0 (sym e ∙ eqb-true i n q)) (λ q. not_member ns a i o.1 e q) (or_cases (eqb i n) (member ns i) t)

pub count_member : (ns : List ℕ) (n : ℕ) → Distinct ns → AllByRecursion (λ x. x < n) ns → count (member ns) n ≡ length ns
count_member [] n d h = count_none (member []) n (λ i l. refl)
count_member (x ∷ ns) n d h =
    count_or (λ i. eqb i x) (member ns) (λ i p q. not_member ns x i d.0 (eqb-true i x p) q) n
    ∙ ap₂ ◌+◌ (count_one x n h.0) (count_member ns n d.1 h.1) ∙ omega arith

-- what holds of each member of a list holds along it, and back
pub along : (P : ℕ → Type 0) (ms ns : List ℕ) → ((i : ℕ) → member ms i ≡ true → member ns i ≡ true)
    → ((i : ℕ) → member ns i ≡ true → P i) → AllByRecursion P ms
along P [] ns into f = tt
along P (m ∷ ms) ns into f =
    (f m (into m (or_left (eqb m m) (member ms m) (eq-eqb m m refl))), along P ms ns (λ i t. into i (or_right (eqb i m) (member ms i) t)) f)

pub at_member : (P : ℕ → Type 0) (ns : List ℕ) → AllByRecursion P ns → (i : ℕ) → member ns i ≡ true → P i
at_member P [] h i t = absurd (false≢true t)
at_member P (n ∷ ns) h i t =
    ⊎_elim (λ q. subst P (sym (eqb-true i n q)) h.0) (λ q. at_member P ns h.1 i q) (or_cases (eqb i n) (member ns i) t)
