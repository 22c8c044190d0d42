-- Bytes from two hex digits.
use Rattle.std.proofs.Common.{◌≡◌, ℕ, zero, suc, ◌+◌, ◌*◌, ◌/◌, ◌%◌, ◌<◌, List, [], length, get_or, take, drop, refl, ap, ◌∙◌, arith}
use Rattle.std.specs.Simd.{first_chunks}
use Rattle.std.proofs.lemmas.Grind.{common_steps}
use Rattle.std.proofs.lemmas.List.{drop-drop}
use Rattle.stripe.specs.Hex.{hex, WritesByte}

high : (h l : ℕ) → l < 16 → (16 * h + l) / 16 ≡ h
high h l small = omega arith

low : (h l : ℕ) → l < 16 → (16 * h + l) % 16 ≡ l
low h l small = omega arith

-- two digits write the byte that is made of them
pub byte_of_digits :
    (text : List ℕ) (j h l : ℕ) → l < 16 → get_or text (2 * j) 0 ≡ hex h → get_or text (2 * j + 1) 0 ≡ hex l
    → WritesByte text j (16 * h + l)
byte_of_digits text j h l small first second = (rw (high h l small) first, rw (low h l small) second)

-- the k-th pair of a text
pair_at : (n k : ℕ) (text pair : List ℕ) → k < n → get_or (first_chunks 2 n text) k pair ≡ take 2 (drop (2 * k) text)
pair_at zero k text pair l = absurd (omega arith)
pair_at (suc n) zero text pair l = refl
pair_at (suc n) (suc k) text pair l =
    let next : 2 + 2 * k ≡ 2 * suc k = omega arith in
    pair_at n k (drop 2 text) pair (omega arith) ∙ ap (take 2) (drop-drop (2 * k) 2 text ∙ ap (λ a. drop a text) next)

-- and its two digits
of_pair : (text : List ℕ) (i : ℕ) → (get_or (take 2 (drop i text)) 0 0 ≡ get_or text i 0) × (get_or (take 2 (drop i text)) 1 0 ≡ get_or text (i + 1) 0)
of_pair text i = (grind (arith, common_steps), grind (arith, common_steps))

pub digits_at :
    (text digits : List ℕ) (pairs : List (List ℕ)) (k : ℕ) → digits ≡ text → pairs ≡ first_chunks 2 (length digits / 2) digits
    → length pairs ≡ length digits / 2 → k < length pairs
    → (get_or (get_or pairs k []) 0 0 ≡ get_or text (2 * k) 0) × (get_or (get_or pairs k []) 1 0 ≡ get_or text (2 * k + 1) 0)
digits_at text digits pairs k same front many l =
    let here : get_or pairs k [] ≡ take 2 (drop (2 * k) text) =
    ap (λ ps. get_or ps k []) front ∙ pair_at (length digits / 2) k digits [] (omega arith) ∙ ap (λ t. take 2 (drop (2 * k) t)) same in (
      ap (λ p. get_or p 0 0) here ∙ (of_pair text (2 * k)).0,
      ap (λ p. get_or p 1 0) here ∙ (of_pair text (2 * k)).1,
    )
