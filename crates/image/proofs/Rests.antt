-- The rest of a CRC-32 as a fold over the bytes, and its known check value. Assumes nothing.
use Rattle.std.proofs.Common.{◌≡◌, ℕ, ◌≤◌, zero, suc, List, [], ◌∷◌, length, get_or, take, fold, refl, ap, sym, ◌∙◌, add-one, arith}
use Rattle.std.proofs.lemmas.List.{take_all}
use Rattle.std.proofs.lemmas.List.Sums.{fold_more}
use Rattle.image.specs.Crc.{taken, rest, crc}

-- over the first k bytes
rest_so_far : (bytes : List ℕ) (k : ℕ) → k ≤ length bytes → fold taken 4294967295 (take k bytes) ≡ rest bytes k
rest_so_far bytes zero h = refl
rest_so_far bytes (suc k) h =
    rw add-one at (fold_more taken 4294967295 bytes k 0 (omega arith))
    ∙ ap (λ x. taken x (get_or bytes k 0)) (rest_so_far bytes k (omega arith))

pub fold_rest : (bytes : List ℕ) → fold taken 4294967295 bytes ≡ rest bytes (length bytes)
fold_rest bytes = ap (fold taken 4294967295) (sym (take_all (length bytes) bytes (omega arith))) ∙ rest_so_far bytes (length bytes) (omega arith)

-- of the digits 1 to 9 it is cbf43926
pub check_value : crc (49 ∷ 50 ∷ 51 ∷ 52 ∷ 53 ∷ 54 ∷ 55 ∷ 56 ∷ 57 ∷ []) ≡ 3421780262
check_value = refl
