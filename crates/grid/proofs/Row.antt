-- The cells of a row that a grid shows.
use Rattle.std.proofs.Common.{◌≡◌, ℕ, ◌<◌, Bool, true, false, cond, ◌&&◌, eqb, Some, None, refl, ap, ◌∙◌, rules}
use Rattle.store.specs.declared.kinds.Shape.{Shape}
use Rattle.store.specs.declared.kinds.State.{State}
use Rattle.store.specs.declared.kinds.State.TheVariants.{Empty}
use Rattle.block.specs.Block.{Block}
use Rattle.grid.specs.Index.{index, total}
use Rattle.grid.specs.Row.{Row, inside, rowed}
use Rattle.grid.specs.Grid.{Grid, marked, written, dropped_in, cleared, fresh}
use Rattle.grid.proofs.Index.{index_eqb, index_below}
use Rattle.grid.proofs.Grid.{grid_same}

-- by cases on whether a cell is inside the shape
pub by_inside : (h : Shape) (s n p : ℕ) (P : Bool → Type 0) → (s < h.slots → n < h.nodes → p < h.places → P true) → ((s < h.slots → n < h.nodes → p < h.places → ⊥) → P false) → P (inside h s n p)
by_inside h s n p P f k = search rules

module _ (h : Shape) (marks : ℕ → State) (row : Row) (s n p : ℕ) (s< : s < h.slots) (n< : n < h.nodes) (p< : p < h.places) where
  pub row_at : (rowed h marks row).cell s n p ≡ row (index h s n p)
  row_at = search rules

module _ (h : Shape) (marks marks' : ℕ → State) (row row' : Row) where
  pub row_same : ((i : ℕ) → i < total h → row' i ≡ row i) → (s n p : ℕ) → (rowed h marks' row').cell s n p ≡ (rowed h marks row).cell s n p
  row_same f s n p = let one = λ (n< : n < h.nodes) (p< : p < h.places) (s< : s < h.slots). f (index h s n p) (index_below h s n p n< p< s<) in search rules

  -- cells wiped where a test holds
  pub row_wiped : (test : ℕ → ℕ → ℕ → Bool) → ((s n p : ℕ) → s < h.slots → n < h.nodes → p < h.places → row' (index h s n p) ≡ cond (test s n p) None (row (index h s n p))) → (s n p : ℕ) → (rowed h marks' row').cell s n p ≡ cond (test s n p) None ((rowed h marks row).cell s n p)
  row_wiped test f s n p = search (rules, f)

  -- one cell written
  module _ (s n p : ℕ) (v : Block) (s< : s < h.slots) (n< : n < h.nodes) (p< : p < h.places) where
    pub row_put : ((i : ℕ) → i < total h → row' i ≡ cond (eqb i (index h s n p)) (Some v) (row i)) → (t x y : ℕ) → (rowed h marks' row').cell t x y ≡ cond (eqb t s && (eqb x n && eqb y p)) (Some v) ((rowed h marks row).cell t x y)
    row_put f t x y = let one = λ (x< : x < h.nodes) (y< : y < h.places) (t< : t < h.slots). f (index h t x y) (index_below h t x y x< y< t<) ∙ ap (λ (b : Bool). cond b (Some v) (row (index h t x y))) (index_eqb h s n p n< p< t x y x< y<) in search rules

-- what a change of the marks and of the row makes of the grid
module _ (h : Shape) (marks marks' : ℕ → State) (row row' : Row) where
  abbrev g : Grid
  g = rowed h marks row

  abbrev g' : Grid
  g' = rowed h marks' row'

  pub marked_row : (s : ℕ) (x : State) → ((t : ℕ) → marks' t ≡ cond (eqb t s) x (marks t)) → ((i : ℕ) → i < total h → row' i ≡ row i) → g' ≡ marked g s x
  marked_row s x m r = grid_same g' (marked g s x) refl m (row_same h marks marks' row row' r)

  pub written_row : (s n p : ℕ) (v : Block) → s < h.slots → n < h.nodes → p < h.places → ((t : ℕ) → marks' t ≡ marks t) → ((i : ℕ) → i < total h → row' i ≡ cond (eqb i (index h s n p)) (Some v) (row i)) → g' ≡ written g s n p v
  written_row s n p v s< n< p< m r = grid_same g' (written g s n p v) refl m (row_put h marks marks' row row' s n p v s< n< p< r)

  pub dropped_in_row : (s n : ℕ) → ((t : ℕ) → marks' t ≡ marks t) → ((t x y : ℕ) → t < h.slots → x < h.nodes → y < h.places → row' (index h t x y) ≡ cond (eqb t s && eqb x n) None (row (index h t x y))) → g' ≡ dropped_in g s n
  dropped_in_row s n m r = grid_same g' (dropped_in g s n) refl m (row_wiped h marks marks' row row' (λ t x y. eqb t s && eqb x n) r)

  pub cleared_row : (s : ℕ) → ((t : ℕ) → marks' t ≡ cond (eqb t s) Empty (marks t)) → ((t x y : ℕ) → t < h.slots → x < h.nodes → y < h.places → row' (index h t x y) ≡ cond (eqb t s) None (row (index h t x y))) → g' ≡ cleared g s
  cleared_row s m r = grid_same g' (cleared g s) refl m (row_wiped h marks marks' row row' (λ t x y. eqb t s) r)

-- every slot empty
pub fresh_row : (h : Shape) (marks : ℕ → State) (row : Row) → ((t : ℕ) → marks t ≡ Empty) → ((i : ℕ) → i < total h → row i ≡ None) → rowed h marks row ≡ fresh h
fresh_row h marks row m r = grid_same (rowed h marks row) (fresh h) refl m (λ s n p. let one = λ (n< : n < h.nodes) (p< : p < h.places) (s< : s < h.slots). r (index h s n p) (index_below h s n p n< p< s<) in search rules)
