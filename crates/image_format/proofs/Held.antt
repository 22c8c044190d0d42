-- What an image shows is what it holds, and an image that holds a sound grid is sound. Assumes nothing.
use Rattle.std.proofs.Common.{◌≡◌, ℕ, ◌*◌, ◌<◌, cond, List, get_or, Some, None, Option, sym, refl, ap, ◌∙◌, subst, add-zero, arith}
use Rattle.std.proofs.lemmas.Bool.{cond-false, le-ltb}
use Rattle.store.specs.declared.kinds.Shape.{Shape}
use Rattle.store.specs.declared.kinds.State.{State}
use Rattle.store.specs.declared.kinds.State.TheVariants.{Empty, Open, Sealed}
use Rattle.block.specs.Block.{Block}
use Rattle.grid.specs.Index.{total}
use Rattle.grid.specs.Grid.{Grid, Sound}
use Rattle.grid.specs.Row.{Row, rowed}
use Rattle.grid.proofs.Grid.{by_ltb, grid_same}
use Rattle.grid.proofs.Row.{row_same}
use Rattle.image_format.specs.Image.{record_of, head_of, cell_from, state_from, row_of, marks_of, grid_at, SoundImage, Holds}
use Rattle.image_format.proofs.Image.{get_or_part}

cell_back : (h : Shape) (i : ℕ) (o : Option Block) → cell_from (record_of h i o) ≡ o
cell_back h i None = refl
cell_back h i (Some v) = refl

pub state_back : (z : State) → state_from (get_or (head_of z) 0 0) ≡ z
state_back Empty = refl
state_back Open = refl
state_back Sealed = refl

-- a sound image that shows the grid g
pub record Becomes (h : Shape) (img : List ℕ) (g : Grid) : Type 0 where
  pub sound : SoundImage h img
  pub becomes : grid_at h img ≡ g

pub held : (h : Shape) (img : List ℕ) → SoundImage h img → Holds h img (marks_of h img) (row_of h img)
held h img k = record { length = k.length; heads = k.heads; records = k.records; past = λ s l. cond-false _ _ _ (le-ltb s h.slots l) }

module _ (h : Shape) (img : List ℕ) (marks : ℕ → State) (row : Row) (k : Holds h img marks row) where
  first_byte : (t : ℕ) → t < h.slots → get_or img (8 * t) 0 ≡ get_or (head_of (marks t)) 0 0
  first_byte t t< = sym (get_or_part img (8 * t) 8 0 0 (omega (arith, k.length)) (omega arith) ∙ ap (λ (j : ℕ). get_or img j 0) (add-zero (8 * t))) ∙ ap (λ (bs : List ℕ). get_or bs 0 0) (k.heads t t<)

  marks_held : (t : ℕ) → marks_of h img t ≡ marks t
  marks_held t = by_ltb t h.slots (λ b. cond b (state_from (get_or img (8 * t) 0)) Empty ≡ marks t) (λ t<. ap state_from (first_byte t t<) ∙ state_back (marks t)) (λ l. sym (k.past t l))

  row_held : (i : ℕ) → i < total h → row_of h img i ≡ row i
  row_held i i< = ap cell_from (k.records i i<) ∙ cell_back h i (row i)

  pub image_held : (g : Grid) → rowed h marks row ≡ g → Sound g → Becomes h img g
  image_held g e sound =
      let shows : grid_at h img ≡ g = grid_same (grid_at h img) (rowed h marks row) refl marks_held (row_same h marks (marks_of h img) row (row_of h img) row_held) ∙ e in
      record {
        sound = record {
          grid = subst Sound (sym shows) sound;
          length = k.length;
          heads = λ s s<. k.heads s s< ∙ ap head_of (sym (marks_held s));
          records = λ i i<. k.records i i< ∙ ap (record_of h i) (sym (row_held i i<));
        };
        becomes = shows;
      }
