-- Lists of bytes. Assumes nothing.
use Rattle.std.proofs.Common.{◌≡◌, ℕ, ◌<◌, ◌≤◌, List, length, get_or, sym, ◌∙◌, subst, ⊎_elim, lit<}
use Rattle.std.proofs.lemmas.List.{ext_get_or, get_or_past}
use Rattle.std.proofs.lemmas.Bool.{cases_lt}
use Rattle.block.specs.Block.{Block}

-- two blocks with the same bytes are the same
pub same_block : (a b : Block) → length a ≡ 64 → length b ≡ 64 → ((j : ℕ) → j < 64 → get_or a j 0 ≡ get_or b j 0) → a ≡ b
same_block a b la lb h = ext_get_or 0 a b (la ∙ sym lb) (λ j l. h j (subst (λ n. j < n) la l))

-- past the end nothing is too large for a byte
pub all_bytes : (xs : List ℕ) → ((j : ℕ) → j < length xs → get_or xs j 0 < 256) → (j : ℕ) → get_or xs j 0 < 256
all_bytes xs h j =
    ⊎_elim (h j) (λ (l : length xs ≤ j). subst (λ x. x < 256) (sym (get_or_past xs j 0 l)) (lit< tt)) (cases_lt j (length xs))
