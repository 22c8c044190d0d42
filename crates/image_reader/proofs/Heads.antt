-- The heads of an image, as chunks of eight bytes. Assumes nothing.
use Rattle.std.proofs.Common.{◌≡◌, ℕ, zero, suc, ◌+◌, ◌-◌, ◌*◌, ◌/◌, ◌<◌, ◌≤◌, Bool, not, List, [], length, get_or, take, drop, None, refl, ap, ◌∙◌, arith, length-take}
use Rattle.std.specs.Simd.{first_chunks}
use Rattle.std.proofs.lemmas.List.{drop-take, drop-drop, take-take}
use Rattle.refusal.specs.Answer.{refuse, outcome}
use Rattle.refusal.specs.declared.kind.Refusal.TheVariants.{Damaged}
use Rattle.image_format.specs.Image.{head_at}
use Rattle.image_reader.specs.Damage.{good_head, head_damage_at}
use Rattle.refusal.proofs.Stopping.{Said}

chunk_at : (n k : ℕ) (xs : List ℕ) → k < n → get_or (first_chunks 8 n xs) k [] ≡ take 8 (drop (8 * k) xs)
chunk_at zero k xs l = absurd (omega arith)
chunk_at (suc n) zero xs l = refl
chunk_at (suc n) (suc k) xs l =
    let next : 8 + 8 * k ≡ 8 * suc k = omega arith in
    chunk_at n k (drop 8 xs) (omega arith) ∙ ap (take 8) (drop-drop (8 * k) 8 xs ∙ ap (λ a. drop a xs) next)

module _ (img : List ℕ) (slots : ℕ) (long : 8 * slots ≤ length img) (heads : List (List ℕ))
    (front : heads ≡ first_chunks 8 (length (take (8 * slots) img) / 8) (take (8 * slots) img)) (many : length heads ≡ length (take (8 * slots) img) / 8) where
  count : length (take (8 * slots) img) / 8 ≡ slots
  count = simp length-take (omega arith)

  head_is : (k : ℕ) → k < slots → get_or heads k [] ≡ head_at img k
  head_is k l =
      let rest = 8 * slots - 8 * k in
      let whole : 8 * slots ≡ 8 * k + rest = omega arith in
      ap (λ xs. get_or xs k []) front
      ∙ chunk_at _ k (take (8 * slots) img) (omega (arith, count))
      ∙ ap (λ w. take 8 (drop (8 * k) (take w img))) whole
      ∙ ap (take 8) (drop-take (8 * k) rest img)
      ∙ take-take 8 rest (drop (8 * k) img) (omega arith)

  module _ (k : ℕ) (l : k < length heads) where
    pub within : k < slots
    within = omega (arith, count)

    -- what the test of a chunk tells of the head
    pub tested : (b : Bool) → b ≡ good_head (get_or heads k []) → Said (head_damage_at img k) (outcome (refuse (not b) (Damaged (8 * k)) None) tt)
    tested b e = ap (λ t. outcome (refuse (not t) (Damaged (8 * k)) None) tt) (e ∙ ap good_head (head_is k within))
