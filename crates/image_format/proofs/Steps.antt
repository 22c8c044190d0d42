-- What each change of a bare store makes of a sound image: one that is sound and shows the changed grid. Assumes nothing.
use Rattle.std.proofs.Common.{◌≡◌, ℕ, ◌+◌, ◌*◌, ◌<◌, Bool, true, false, cond, ◌&&◌, ltb, leb, List, ◌∷◌, length, replicate, Some, None, sym, refl, ap, ◌∙◌, subst, mul_assoc, add-zero, arith}
use Rattle.std.proofs.lemmas.Bool.{eq-eqb}
use Rattle.store.specs.declared.kinds.Shape.{Shape}
use Rattle.store.specs.declared.kinds.State.{State}
use Rattle.store.specs.declared.kinds.State.TheVariants.{Empty, Open, Sealed}
use Rattle.block.specs.Block.{Block, IsBlock}
use Rattle.store.specs.Meaning.{Limits}
use Rattle.store.specs.Calls.{incomplete}
use Rattle.grid.specs.Index.{index}
use Rattle.grid.specs.Grid.{Sound, marked, written, dropped_in, cleared, fresh}
use Rattle.grid.specs.Row.{Row}
use Rattle.grid.proofs.Index.{index_slot, index_node, index_place, index_below, in_slot, in_node}
use Rattle.grid.proofs.Row.{written_row, dropped_in_row, cleared_row, fresh_row}
use Rattle.grid.proofs.Grid.{open_sound, put_sound, seal_sound, clear_sound, wipe_sound, fresh_sound}
use Rattle.grid.proofs.Calls.{all_there}
use Rattle.image_format.specs.Image.{Over, Wiped, start, size, record_at, record_of, head_of, cell_from, row_of, marks_of, grid_at, SoundImage, Holds}
use Rattle.image_format.proofs.Image.{over_as}
use Rattle.image_format.proofs.Held.{Becomes, held, image_held}
use Rattle.image_format.proofs.Writes.{head_held, put_held, wipe_held, zeros_held}

-- the record of a cell, by slot, node and place
record_is : (h : Shape) (s n p : ℕ) (v : Block) → n < h.nodes → p < h.places → record_of h (index h s n p) (Some v) ≡ 1 ∷ s ∷ n ∷ p ∷ 0 ∷ 0 ∷ 0 ∷ 0 ∷ v
record_is h s n p v n< p< = rw (index_slot h s n p n< p<, index_node h s n p n< p<, index_place h s n p n< p<)

-- the records of a node in one slot are zeros, and what was zeros is it still
pub record Wipes (h : Shape) (xs ys : List ℕ) (s n : ℕ) : Type 0 where
  pub image : Becomes h ys (dropped_in (grid_at h xs) s n)
  pub here : (p : ℕ) → p < h.places → record_at h ys (index h s n p) ≡ replicate 72 0
  pub still : (t x p : ℕ) → t < h.slots → x < h.nodes → p < h.places → record_at h xs (index h t x p) ≡ replicate 72 0 → record_at h ys (index h t x p) ≡ replicate 72 0

-- a record of zeros stays one, whether it is wiped or not
zeros_stay : (h : Shape) (i : ℕ) (test : Bool) → record_of h i (cond test None (cell_from (replicate 72 0))) ≡ replicate 72 0
zeros_stay h i true = refl
zeros_stay h i false = refl

module _ (h : Shape) (xs ys : List ℕ) (k : SoundImage h xs) (same : length ys ≡ length xs) where
  module _ (s : ℕ) (s< : s < h.slots) where
    -- a head written
    module _ (new : List ℕ) (o : Over xs ys (8 * s) new) where
      head_image : (z : State) → new ≡ head_of z → Sound (marked (grid_at h xs) s z) → Becomes h ys (marked (grid_at h xs) s z)
      head_image z e sound = image_held h ys _ _ (head_held h xs ys (marks_of h xs) (row_of h xs) (held h xs k) same s s< z (over_as xs ys new (head_of z) (8 * s) (8 * s) refl e o)) _ refl sound

      pub open_image : new ≡ head_of Open → marks_of h xs s ≡ Empty → Becomes h ys (marked (grid_at h xs) s Open)
      open_image e i = head_image Open e (open_sound (grid_at h xs) k.grid s s< i)

      pub seal_image : new ≡ head_of Sealed → marks_of h xs s ≡ Open → incomplete h ((grid_at h xs).cell s) ≡ None → Becomes h ys (marked (grid_at h xs) s Sealed)
      seal_image e i none = head_image Sealed e (seal_sound (grid_at h xs) k.grid s s< i (all_there h ((grid_at h xs).cell s) none))

    -- the head, then the records: zs is the image between
    pub clear_image : (zs new : List ℕ) → length zs ≡ length xs → new ≡ head_of Empty → Over xs zs (8 * s) new → (at : ℕ) → at ≡ start h (index h s 0 0) → Wiped zs ys at (at + 72 * (h.nodes * h.places)) → Becomes h ys (cleared (grid_at h xs) s)
    clear_image zs new l e o at from w =
        let first = s * (h.nodes * h.places) in
        let last = first + h.nodes * h.places in
        let a : at ≡ start h first = omega (arith, from, mul_assoc s h.nodes h.places, add-zero (s * h.nodes)) in
        let b : at + 72 * (h.nodes * h.places) ≡ start h last = omega (arith, a) in
        let wiped : Wiped zs ys (start h first) (start h last) = subst (λ (x : ℕ). Wiped zs ys x (start h last)) a (subst (λ (x : ℕ). Wiped zs ys at x) b w) in
        let f = head_held h xs zs (marks_of h xs) (row_of h xs) (held h xs k) l s s< Empty (over_as xs zs new (head_of Empty) (8 * s) (8 * s) refl e o) in
        let row : Row = λ i. cond (leb first i && ltb i last) None (row_of h xs i) in
        image_held h ys _ _ (wipe_held h zs ys _ _ f (same ∙ sym l) first last wiped) _
        (cleared_row h (marks_of h xs) _ (row_of h xs) row s (λ t. refl) (λ t x y t< x< y<. ap (λ (b : Bool). cond b None (row_of h xs (index h t x y))) (in_slot h t x y x< y< s)))
        (clear_sound (grid_at h xs) k.grid s)

    pub put_image : (n p : ℕ) → n < h.nodes → p < h.places → (v : Block) → IsBlock v → marks_of h xs s ≡ Open → (at : ℕ) → at ≡ start h (index h s n p) → (new : List ℕ) → new ≡ 1 ∷ s ∷ n ∷ p ∷ 0 ∷ 0 ∷ 0 ∷ 0 ∷ v → Over xs ys at new → Becomes h ys (written (grid_at h xs) s n p v)
    put_image n p n< p< v is e at i new j o =
        let w = over_as xs ys new (record_of h (index h s n p) (Some v)) at (start h (index h s n p)) i (j ∙ sym (record_is h s n p v n< p<)) o in
        let g = put_held h xs ys (marks_of h xs) (row_of h xs) (held h xs k) same (index h s n p) (index_below h s n p n< p< s<) v is.size w in
        image_held h ys _ _ g _
        (written_row h (marks_of h xs) (marks_of h xs) (row_of h xs) _ s n p v s< n< p< (λ t. refl) (λ i i<. refl))
        (put_sound (grid_at h xs) k.grid s n p v s< (n<, p<) is e)

  -- the records of a node in one slot wiped
  module _ (s n at : ℕ) (s< : s < h.slots) (n< : n < h.nodes) (from : at ≡ start h (index h s n 0)) (w : Wiped xs ys at (at + 72 * h.places)) where
    abbrev first : ℕ
    first = (s * h.nodes + n) * h.places

    wiped_from : Wiped xs ys (start h first) (start h (first + h.places))
    wiped_from =
        let a : at ≡ start h first = omega (arith, from) in
        let b : at + 72 * h.places ≡ start h (first + h.places) = omega (arith, from) in
        subst (λ (x : ℕ). Wiped xs ys x (start h (first + h.places))) a (subst (λ (x : ℕ). Wiped xs ys at x) b w)

    abbrev row_after : Row
    row_after i = cond (leb first i && ltb i (first + h.places)) None (row_of h xs i)

    held_after : Holds h ys (marks_of h xs) row_after
    held_after = wipe_held h xs ys (marks_of h xs) (row_of h xs) (held h xs k) same first (first + h.places) wiped_from

    pub wipe_image : Wipes h xs ys s n
    wipe_image = record {
      image = image_held h ys _ _ held_after _
          (dropped_in_row h (marks_of h xs) (marks_of h xs) (row_of h xs) row_after s n (λ t. refl) (λ t x y t< x< y<. ap (λ (b : Bool). cond b None (row_of h xs (index h t x y))) (in_node h t x y x< y< s n n<)))
          (wipe_sound (grid_at h xs) k.grid s n);
      here = λ p p<. held_after.records (index h s n p) (index_below h s n p n< p< s<) ∙ rw (in_node h s n p n< p< s n n<, eq-eqb s s refl, eq-eqb n n refl) refl;
      still = λ t x p t< x< p< e. held_after.records (index h t x p) (index_below h t x p x< p< t<) ∙ ap (λ (r : List ℕ). record_of h (index h t x p) (cond (leb first (index h t x p) && ltb (index h t x p) (first + h.places)) None (cell_from r))) e ∙ zeros_stay h (index h t x p) _;
    }

pub new_image : (h : Shape) → Limits h → Becomes h (replicate (size h) 0) (fresh h)
new_image h limits = image_held h _ _ _ (zeros_held h) _ (fresh_row h _ _ (λ t. refl) (λ i i<. refl)) (fresh_sound h limits)
