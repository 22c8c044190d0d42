-- What a write makes of a table, and of the grid that it shows.
use Rattle.std.proofs.Common.{◌≡◌, ℕ, ◌+◌, ◌*◌, ◌<◌, true, cond, ◌&&◌, eqb, ltb, leb, List, length, length-set, set, replicate, Some, None, sym, refl, ap, ◌∙◌, subst, mul_assoc, add-zero, arith, rules}
use Rattle.std.proofs.lemmas.Grind.{common_steps}
use Rattle.std.proofs.lemmas.List.{length-replicate}
use Rattle.store.specs.declared.kinds.Shape.{Shape}
use Rattle.store.specs.declared.kinds.State.{State}
use Rattle.store.specs.declared.kinds.State.TheVariants.{Empty, Open, Sealed}
use Rattle.block.specs.Block.{Block, IsBlock}
use Rattle.store.specs.Meaning.{Within}
use Rattle.store.specs.Calls.{incomplete}
use Rattle.grid.specs.Grid.{Grid, Sound, marked, written, dropped_in, cleared}
use Rattle.grid.specs.Index.{index, total, table_refusal}
use Rattle.grid.proofs.Grid.{put_sound, seal_sound, clear_sound, wipe_sound, fresh_sound}
use Rattle.grid.proofs.Index.{index_below, in_slot, in_node}
use Rattle.grid.proofs.Row.{marked_row, written_row, dropped_in_row, cleared_row, fresh_row}
use Rattle.grid.proofs.Sizes.{sizes_limits, sizes_length}
use Rattle.grid.proofs.Calls.{all_there}
use Rattle.bank.specs.Table.{blank, at, content, row_of, marks_of, grid_at, SoundTable}
use Rattle.bank.specs.declared.cell.Cell.{Cell}

abbrev pub holding : Block → Cell
holding v = record { present = true; block = v }

stored : (xs : List Cell) (j : ℕ) (v : Block) → j < length xs → (i : ℕ) → row_of (set xs j (holding v)) i ≡ cond (eqb i j) (Some v) (row_of xs i)
stored xs j v j< i = search rules

-- a cell after those of a node in one slot are wiped
pub wiped_cell : (h : Shape) (xs ys : List Cell) (s n a : ℕ) → n < h.nodes → a ≡ index h s n 0 → ((i : ℕ) → at ys i ≡ cond (leb a i && ltb i (a + h.places)) blank (at xs i)) → (t x y : ℕ) → x < h.nodes → y < h.places → at ys (index h t x y) ≡ cond (eqb t s && eqb x n) blank (at xs (index h t x y))
wiped_cell h xs ys s n a n< e w t x y x< y< =
    let from : a ≡ (s * h.nodes + n) * h.places = e ∙ add-zero _ in
    let here = in_node h t x y x< y< s n n< in
    let now = w (index h t x y) in
    search rules

-- and after those of a whole slot are
emptied_cell : (h : Shape) (xs ys : List Cell) (s a : ℕ) → a ≡ index h s 0 0 → ((i : ℕ) → at ys i ≡ cond (leb a i && ltb i (a + h.nodes * h.places)) blank (at xs i)) → (t x y : ℕ) → x < h.nodes → y < h.places → at ys (index h t x y) ≡ cond (eqb t s) blank (at xs (index h t x y))
emptied_cell h xs ys s a e w t x y x< y< =
    let from : a ≡ s * (h.nodes * h.places) = omega (arith, e, mul_assoc s h.nodes h.places, add-zero (s * h.nodes)) in
    let here = in_slot h t x y x< y< s in
    let now = w (index h t x y) in
    search rules

-- a table that shows that grid, which is sound
pub record Shows (h : Shape) (zs : List State) (xs : List Cell) (g : Grid) : Type 0 where
  pub sound : SoundTable h zs xs
  pub grid : grid_at h zs xs ≡ g

module _ (h : Shape) (zs : List State) (xs : List Cell) (k : SoundTable h zs xs) where
  abbrev g : Grid
  g = grid_at h zs xs

  shows : (zs' : List State) (xs' : List Cell) (g' : Grid) → grid_at h zs' xs' ≡ g' → Sound g' → length zs' ≡ length zs → length xs' ≡ length xs → Shows h zs' xs' g'
  shows zs' xs' g' e s z l = record { sound = record { grid = subst Sound (sym e) s; size = l ∙ k.size; marks = z ∙ k.marks }; grid = e }

  mark : (s : ℕ) (x : State) → s < h.slots → (t : ℕ) → marks_of (set zs s x) t ≡ cond (eqb t s) x (marks_of zs t)
  mark s x s< t = let l : s < length zs = omega (arith, k.marks, k.grid.limits.slots_most) in search rules

  pub seal_table : (s : ℕ) → s < h.slots → g.state s ≡ Open → incomplete h (g.cell s) ≡ None → Shows h (set zs s Sealed) xs (marked g s Sealed)
  seal_table s s< e none =
      shows (set zs s Sealed) xs (marked g s Sealed)
      (marked_row h (marks_of zs) (marks_of (set zs s Sealed)) (row_of xs) (row_of xs) s Sealed (mark s Sealed s<) (λ _ _. refl))
      (seal_sound g k.grid s s< e (all_there h (g.cell s) none))
      (length-set zs s Sealed)
      refl

  pub put_table : (s n p i : ℕ) (v w : Block) → s < h.slots → Within h n p → IsBlock v → g.state s ≡ Open → i ≡ index h s n p → w ≡ v → Shows h zs (set xs i (holding w)) (written g s n p v)
  put_table s n p i v w s< b is e at same =
      shows zs (set xs i (holding w)) (written g s n p v)
      (written_row h (marks_of zs) (marks_of zs) (row_of xs) (row_of (set xs i (holding w))) s n p v s< b.0 b.1 (λ _. refl) (λ j _. stored xs i w (omega (arith, at, k.size, index_below h s n p b.0 b.1 s<)) j ∙ rw (at, same)))
      (put_sound g k.grid s n p v s< b is e)
      refl
      (length-set xs i (holding w))

  pub wipe_table : (s n a : ℕ) (ys : List Cell) → n < h.nodes → a ≡ index h s n 0 → length ys ≡ length xs → ((i : ℕ) → at ys i ≡ cond (leb a i && ltb i (a + h.places)) blank (at xs i)) → Shows h zs ys (dropped_in g s n)
  wipe_table s n a ys n< e l w =
      shows zs ys (dropped_in g s n)
      (dropped_in_row h (marks_of zs) (marks_of zs) (row_of xs) (row_of ys) s n (λ _. refl) (λ t x y t< x< y<. let one = wiped_cell h xs ys s n a n< e w t x y x< y< in search rules))
      (wipe_sound g k.grid s n)
      refl
      l

  pub clear_table : (s a : ℕ) (ys : List Cell) → s < h.slots → a ≡ index h s 0 0 → length ys ≡ length xs → ((i : ℕ) → at ys i ≡ cond (leb a i && ltb i (a + h.nodes * h.places)) blank (at xs i)) → Shows h (set zs s Empty) ys (cleared g s)
  clear_table s a ys s< e l w =
      shows (set zs s Empty) ys (cleared g s)
      (cleared_row h (marks_of zs) (marks_of (set zs s Empty)) (row_of xs) (row_of ys) s (mark s Empty s<) (λ t x y t< x< y<. let one = emptied_cell h xs ys s a e w t x y x< y< in search rules))
      (clear_sound g k.grid s)
      (length-set zs s Empty)
      l

-- eight empty marks, and a table of blank cells
empty_marks : (n t : ℕ) → marks_of (replicate n Empty) t ≡ Empty
empty_marks n t = grind (arith, common_steps)

blank_cells : (n i : ℕ) → at (replicate n blank) i ≡ blank
blank_cells n i = grind (arith, common_steps)

pub new_table : (h : Shape) (xs ys : List Cell) → table_refusal h (total h) (length xs) ≡ None → ys ≡ replicate (length xs) blank → SoundTable h (replicate 8 Empty) ys
new_table h xs ys e w = record {
  grid = subst Sound (sym (fresh_row h (marks_of (replicate 8 Empty)) (row_of ys) (empty_marks 8) (λ i _. rw w (ap content (blank_cells (length xs) i))))) (fresh_sound h (sizes_limits h (total h) (length xs) e));
  size = ap length w ∙ length-replicate (length xs) blank ∙ sizes_length h (total h) (length xs) e;
  marks = refl;
}
