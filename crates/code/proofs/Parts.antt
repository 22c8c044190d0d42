-- Blocks in a row of which one is written, or a part taken. Assumes nothing.
use Rattle.std.proofs.Common.{◌≡◌, ℕ, ◌+◌, ◌-◌, ◌*◌, ◌<◌, ◌≤◌, List, length, get_or, take, drop, sym, ap, ◌∙◌, ⊎_elim, arith}
use borrow.Rule.Slice.PartMut.{put_mid}
use Rattle.std.proofs.lemmas.List.{get_or-take, get_or-drop, length-take-le, length-drop}
use Rattle.std.proofs.lemmas.Slice.{between-put_mid, take-put_mid_below, drop-put_mid, between_is}
use Rattle.std.proofs.lemmas.Bool.{cases_lt}
use Rattle.block.proofs.Bytes.{same_block}
use Rattle.code.specs.Calls.{block_at}
use Rattle.code.proofs.Blocks.{block_byte, block_size}

module _ (c w : ℕ) (xs ys : List ℕ) (room : c * 64 ≤ length xs) (size : length ys ≡ 64) where
  pub block_here : block_at (put_mid (c * 64) w xs ys) c ≡ ys
  block_here =
      let s : c * 64 + 64 - c * 64 ≡ 64 = omega arith in
      ap (λ z. take z (drop (c * 64) (put_mid (c * 64) w xs ys))) (sym s) ∙ between-put_mid (c * 64) w xs ys (c * 64 + 64) room (size ∙ sym s)

  pub block_other : w ≡ 64 → (i : ℕ) → (i ≡ c → ⊥) → block_at (put_mid (c * 64) w xs ys) i ≡ block_at xs i
  block_other wide i ne = ⊎_elim (λ (lt : i < c). before lt) (λ (le : c ≤ i). after (omega arith)) (cases_lt i c)
    where
      before : i < c → block_at (put_mid (c * 64) w xs ys) i ≡ block_at xs i
      before lt =
          let s : i * 64 + 64 - i * 64 ≡ 64 = omega arith in
          let zs = put_mid (c * 64) w xs ys in
          ap (λ z. take z (drop (i * 64) zs)) (sym s) ∙ between_is zs (i * 64) (i * 64 + 64)
          ∙ ap (drop (i * 64)) (take-put_mid_below (c * 64) w xs ys (i * 64 + 64) (omega arith) room)
          ∙ sym (between_is xs (i * 64) (i * 64 + 64)) ∙ ap (λ z. take z (drop (i * 64) xs)) s

      after : c < i → block_at (put_mid (c * 64) w xs ys) i ≡ block_at xs i
      after lt = ap (take 64) (drop-put_mid (c * 64) w xs ys (i * 64) (omega arith) room (size ∙ sym wide))

-- n blocks from block a on
pub block_of_part : (a n : ℕ) (xs : List ℕ) → (a + n) * 64 ≤ length xs → (i : ℕ) → i < n → block_at (take (n * 64) (drop (a * 64) xs)) i ≡ block_at xs (a + i)
block_of_part a n xs room i lt =
    let part = take (n * 64) (drop (a * 64) xs) in
    let long : length part ≡ n * 64 = length-take-le (n * 64) (drop (a * 64) xs) (simp length-drop (omega arith)) in
    same_block (block_at part i) (block_at xs (a + i)) (block_size part i n lt (omega arith)) (block_size xs (a + i) (a + n) (omega arith) room)
    (λ j l. block_byte part i j l ∙ get_or-take (n * 64) (drop (a * 64) xs) (i * 64 + j) 0 (omega arith) ∙ get_or-drop (a * 64) xs (i * 64 + j) 0
    ∙ ap (λ x. get_or xs x 0) (let e : a * 64 + (i * 64 + j) ≡ (a + i) * 64 + j = omega arith in e) ∙ sym (block_byte xs (a + i) j l))
