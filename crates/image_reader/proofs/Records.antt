-- Heads and records that pass their tests are those of the format, and those of the format pass. Assumes nothing.
use Rattle.std.proofs.Common.{◌≡◌, ℕ, zero, suc, ◌+◌, ◌≤◌, true, eqb, leb, List, [], ◌∷◌, length, get_or, take, drop, replicate, Some, sym, refl, ap, ◌∙◌, arith}
use Rattle.std.proofs.lemmas.List.{drop-take, drop-drop, ext_get_or, get_or-replicate}
use Rattle.std.proofs.lemmas.Bool.{and_parts, eqb-true, leb-true, cond-true}
use Rattle.std.proofs.lemmas.Bool.Decides.{nat_tests}
use Rattle.block.specs.Block.{Block}
use Rattle.store.specs.declared.kinds.Shape.{Shape}
use Rattle.store.specs.declared.kinds.State.{State}
use Rattle.store.specs.declared.kinds.State.TheVariants.{Empty, Open, Sealed}
use Rattle.grid.specs.Index.{index}
use Rattle.image_format.specs.Image.{start, record_at, head_of, state_from, cell_from}
use Rattle.image_reader.specs.Damage.{all_below, zeros, good_head, headed}
use Rattle.image_reader.specs.Reader.{block_part}
use Rattle.image_reader.proofs.Below.{all_at}

-- a state's number and seven zeros
head_of_from : (b : ℕ) → b ≤ 2 → head_of (state_from b) ≡ b ∷ replicate 7 0
head_of_from zero l = refl
head_of_from (suc zero) l = refl
head_of_from (suc (suc zero)) l = refl
head_of_from (suc (suc (suc b))) l = absurd (omega arith)

tail_zeros : (b : ℕ) (xs : List ℕ) → length xs ≡ 7 → all_below (λ j. eqb (get_or (b ∷ xs) (1 + j) 0) 0) 7 ≡ true → xs ≡ replicate 7 0
tail_zeros b xs len e =
    ext_get_or 0 xs (replicate 7 0) len
    (λ j l. let q : 1 + j ≡ suc j = omega arith in
    ap (λ i. get_or (b ∷ xs) i 0) (sym q) ∙ eqb-true (get_or (b ∷ xs) (1 + j) 0) 0 (all_at (λ j. eqb (get_or (b ∷ xs) (1 + j) 0) 0) 7 e j (omega arith))
    ∙ sym (get_or-replicate 7 j 0 0 (omega arith)))

pub head_good : (bytes : List ℕ) → length bytes ≡ 8 → good_head bytes ≡ true → bytes ≡ head_of (state_from (get_or bytes 0 0))
head_good [] len e = absurd (omega arith)
head_good (b ∷ xs) len e =
    let s = and_parts (leb b 2) _ e in
    ap (λ ys. b ∷ ys) (tail_zeros b xs (omega arith) s.1) ∙ sym (head_of_from b (leb-true b 2 s.0))

pub good_head_of : (z : State) → good_head (head_of z) ≡ true
good_head_of Empty = refl
good_head_of Open = refl
good_head_of Sealed = refl

-- a record with the head of a present cell
eight : (s n p a b c d x y z w : ℕ) (rest : List ℕ) → headed s n p (a ∷ b ∷ c ∷ d ∷ x ∷ y ∷ z ∷ w ∷ rest) ≡ true
    → a ∷ b ∷ c ∷ d ∷ x ∷ y ∷ z ∷ w ∷ rest ≡ 1 ∷ s ∷ n ∷ p ∷ 0 ∷ 0 ∷ 0 ∷ 0 ∷ rest
eight s n p a b c d x y z w rest e = grind (arith, nat_tests)

pub record_headed : (s n p : ℕ) (bytes : List ℕ) → length bytes ≡ 72 → headed s n p bytes ≡ true
    → bytes ≡ 1 ∷ s ∷ n ∷ p ∷ 0 ∷ 0 ∷ 0 ∷ 0 ∷ drop 8 bytes
record_headed s n p [] len e = absurd (omega arith)
record_headed s n p (a ∷ []) len e = absurd (omega arith)
record_headed s n p (a ∷ b ∷ []) len e = absurd (omega arith)
record_headed s n p (a ∷ b ∷ c ∷ []) len e = absurd (omega arith)
record_headed s n p (a ∷ b ∷ c ∷ d ∷ []) len e = absurd (omega arith)
record_headed s n p (a ∷ b ∷ c ∷ d ∷ x ∷ []) len e = absurd (omega arith)
record_headed s n p (a ∷ b ∷ c ∷ d ∷ x ∷ y ∷ []) len e = absurd (omega arith)
record_headed s n p (a ∷ b ∷ c ∷ d ∷ x ∷ y ∷ z ∷ []) len e = absurd (omega arith)
record_headed s n p (a ∷ b ∷ c ∷ d ∷ x ∷ y ∷ z ∷ w ∷ rest) len e = eight s n p a b c d x y z w rest e

pub headed_record : (s n p a b c : ℕ) (v : Block) → a ≡ s → b ≡ n → c ≡ p → headed s n p (1 ∷ a ∷ b ∷ c ∷ 0 ∷ 0 ∷ 0 ∷ 0 ∷ v) ≡ true
headed_record s n p a b c v ea eb ec = grind (arith, nat_tests)

-- a record of zeros
pub record_blank : (bytes : List ℕ) → length bytes ≡ 72 → zeros bytes ≡ true → bytes ≡ replicate 72 0
record_blank bytes len e =
    ext_get_or 0 bytes (replicate 72 0) len
    (λ j l. eqb-true (get_or bytes j 0) 0 (all_at (λ j. eqb (get_or bytes j 0) 0) (length bytes) e j l) ∙ sym (get_or-replicate 72 j 0 0 (omega arith)))

-- what a record shows
pub shows_block : (s n p : ℕ) (bytes : List ℕ) → headed s n p bytes ≡ true → cell_from bytes ≡ Some (drop 8 bytes)
shows_block s n p bytes e = cond-true (eqb (get_or bytes 0 0) 1) _ _ (and_parts (eqb (get_or bytes 0 0) 1) _ e).0

-- the block behind the head of a record
pub part_of : (h : Shape) (img : List ℕ) (s n p : ℕ) → drop 8 (record_at h img (index h s n p)) ≡ block_part h img s n p
part_of h img s n p =
    drop-take 8 64 (drop (start h (index h s n p)) img) ∙ ap (take 64) (drop-drop 8 (start h (index h s n p)) img)
