-- A node dropped slot by slot.
use Rattle.std.proofs.Common.{◌≡◌, ℕ, ◌+◌, ◌≤◌, Bool, true, false, cond, ◌&&◌, eqb, ltb, None, Option, refl, arith}
use Rattle.std.proofs.lemmas.Bool.Decides.{nat_tests}
use Rattle.block.specs.Block.{Block}
use Rattle.grid.specs.Grid.{Grid, Sound, dropped, dropped_in}
use Rattle.grid.proofs.Grid.{grid_same, by_ltb}

abbrev pub dropped_below : Grid → ℕ → ℕ → Grid
dropped_below g s n = record { shape = g.shape; state = g.state; cell = λ t x y. cond (ltb t s && eqb x n) None (g.cell t x y) }

more : (s t : ℕ) (b : Bool) (a : Option Block) → cond (eqb s t && b) None (cond (ltb s t && b) None a) ≡ cond (ltb s (t + 1) && b) None a
more s t true a = grind (arith, nat_tests)
more s t false a = grind (arith, nat_tests)

none_below : (t : ℕ) (b : Bool) (a : Option Block) → a ≡ cond (ltb t 0 && b) None a
none_below t b a = grind (arith, nat_tests)

all_below : (t m : ℕ) (b : Bool) (a : Option Block) → (m ≤ t → a ≡ None) → cond (ltb t m && b) None a ≡ cond b None a
all_below t m true a e = by_ltb t m (λ c. cond (c && true) None a ≡ None) (λ _. refl) e
all_below t m false a e = by_ltb t m (λ c. cond (c && false) None a ≡ a) (λ _. refl) (λ _. refl)

module _ (g : Grid) where
  pub dropped_none : (n : ℕ) → g ≡ dropped_below g 0 n
  dropped_none n = grid_same _ _ refl (λ _. refl) (λ t x y. none_below t (eqb x n) (g.cell t x y))

  pub dropped_more : (s n : ℕ) → dropped_in (dropped_below g s n) s n ≡ dropped_below g (s + 1) n
  dropped_more s n = grid_same _ _ refl (λ _. refl) (λ t x y. more t s (eqb x n) (g.cell t x y))

  module _ (k : Sound g) where
    pub dropped_all : (n : ℕ) → dropped_below g g.shape.slots n ≡ dropped g n
    dropped_all n = grid_same _ _ refl (λ _. refl) (λ t x y. all_below t g.shape.slots (eqb x n) (g.cell t x y) (λ l. k.vacant t x y (k.past t l)))
