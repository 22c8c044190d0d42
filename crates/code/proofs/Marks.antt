-- What marks say. Assumes nothing.
use Rattle.std.proofs.Common.{◌≡◌, ℕ, true, false, not, eqb, List, ◌∷◌, length, get_or, sym, refl, ap}
use Rattle.std.specs.List.{count_by}
use Rattle.std.proofs.lemmas.Bool.{eq-eqb, ne_eqb}
use Rattle.std.proofs.lemmas.List.Recursion.{is_count_by}
use Rattle.block.specs.Count.{count}
use Rattle.block.proofs.Counts.{count_front}
use Rattle.code.specs.Calls.{marks_held}

pub mark_held : (marks : List ℕ) (i : ℕ) → (get_or marks i 0 ≡ 0 → ⊥) → marks_held marks i ≡ true
mark_held marks i ne = ap not (ne_eqb (get_or marks i 0) 0 ne)

pub mark_missing : (marks : List ℕ) (i : ℕ) → get_or marks i 0 ≡ 0 → marks_held marks i ≡ false
mark_missing marks i e = ap not (eq-eqb (get_or marks i 0) 0 e)

-- the marks that pass are the numbers of the held blocks
pub count_marks : (marks : List ℕ) → count_by (λ mark. not (eqb mark 0)) marks ≡ count (marks_held marks) (length marks)
count_marks marks =
    sym (is_count_by (λ ms. count (marks_held ms) (length ms)) (λ mark. not (eqb mark 0)) refl
    (λ mark ms. count_front (marks_held (mark ∷ ms)) (length ms)) marks)
