-- Which ranks have gaps: blocks that a rule does not cover against the lost nodes.
use Rattle.std.specs.Prelude.{ℕ, zero, suc, Bool, false, cond, not, ◌||◌, List, [], ◌∷◌, ◌++◌, ◌==◌, nat_lt}
use Rattle.block.specs.Count.{count}
use Rattle.store.specs.Meaning.{Nodes, Rule}

-- the nodes of a list, as a set
abbrev pub listed : List ℕ → Nodes
listed [] n = false
listed (x ∷ xs) n = n == x || listed xs n

-- some place of the rank, of so many, is not covered
abbrev pub has_gap : Rule → ℕ → Nodes → ℕ → Bool
has_gap rule places d rank = nat_lt 0 (count (λ p. not (rule rank p d)) places)

-- the ranks below n with gaps, in order
abbrev pub gap_ranks : Rule → ℕ → Nodes → ℕ → List ℕ
gap_ranks rule places d zero = []
gap_ranks rule places d (suc n) = gap_ranks rule places d n ++ cond (has_gap rule places d n) (n ∷ []) []
