-- The cells that an image holds, counted over its nodes and places. Assumes nothing.
use Rattle.std.proofs.Common.{◌≡◌, ℕ, zero, suc, ◌+◌, ◌*◌, ◌^◌, ◌<◌, ◌≤◌, Bool, true, false, cond, [], ◌∷◌, ◌++◌, length, filter, map, sum, refl, ap, ◌∙◌, add-one, add-mul, one-mul, zero-add, length-append, arith}
use Rattle.std.proofs.lemmas.List.{map-append, map-id}
use Rattle.std.proofs.lemmas.List.Elements.{filter-append}
use Rattle.std.proofs.lemmas.List.Sums.{fold-append}
use Rattle.std.proofs.lemmas.Nat.{mul-le}
use Rattle.std.proofs.lemmas.List.FromFn.{map-range_with_len_more}
use Rattle.std.specs.List.{range_with_len}
use Rattle.block.specs.Count.{count}
use Rattle.block.proofs.Counts.{count_le}
use Rattle.store.specs.Meaning.{Limits}
use Rattle.image_reader.specs.declared.reader.ImageReader.{ImageReader}
use Rattle.image_reader.specs.Reader.{shape_of}
use Rattle.image.specs.Held.{has, of_node, of_nodes}

-- one number more
range_more : (n : ℕ) → range_with_len 0 (suc n) ≡ range_with_len 0 n ++ n ∷ []
range_more n = rw add-one at (simp map-id at (map-range_with_len_more (λ x. x) 0 n n (zero-add n)))

-- the numbers below n that pass a test
pub passing : (test : ℕ → Bool) (n : ℕ) → length (filter test (range_with_len 0 n)) ≡ count test n
passing test zero = refl
passing test (suc n) =
    ap (λ xs. length (filter test xs)) (range_more n)
    ∙ simp (filter-append, length-append) (elim (test n) as (λ b. length (filter test (range_with_len 0 n)) + length (cond b (n ∷ []) []) ≡ cond b (suc (count test n)) (count test n)) [
      | true ↦ omega (arith, passing test n)
      | false ↦ omega (arith, passing test n)
    ])

-- the cells of the first k nodes
pub all_nodes : (r : ImageReader) (s k : ℕ) → sum (map (of_node r s) (range_with_len 0 k)) ≡ of_nodes r s k
all_nodes r s zero = refl
all_nodes r s (suc k) =
    let each = of_node r s in
    ap (λ ns. sum (map each ns)) (range_more k) ∙ ap sum (map-append each (range_with_len 0 k) (k ∷ []))
    ∙ fold-append ◌+◌ 0 (map each (range_with_len 0 k)) (each k ∷ []) ∙ ap (λ x. x + each k) (all_nodes r s k)

-- they are few
at_most : (r : ImageReader) (s k : ℕ) → of_nodes r s k ≤ k * (shape_of r).places
at_most r s zero = omega arith
at_most r s (suc k) = omega (arith, at_most r s k, count_le (has r s k) (shape_of r).places, add-mul k 1 (shape_of r).places, one-mul (shape_of r).places, add-one k)

pub fits : (r : ImageReader) (s : ℕ) → Limits (shape_of r) → sum (map (of_node r s) (range_with_len 0 (shape_of r).nodes)) < 2 ^ 64
fits r s small =
    let h = shape_of r in
    omega (arith, all_nodes r s h.nodes, at_most r s h.nodes, mul-le h.nodes h.places 64 64 small.nodes_most small.places_most)
