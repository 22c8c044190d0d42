-- An image that nothing damages is as the format has it, and an image as the format has it is damaged by nothing.
-- Assumes nothing.
use Rattle.std.proofs.Common.{◌≡◌, ℕ, ◌+◌, ◌*◌, ◌/◌, ◌%◌, ◌<◌, Bool, true, false, cond, not, ◌&&◌, ◌||◌, eqb, ltb, List, ◌∷◌, length, get_or, drop, replicate, is_some, Some, None, Option, sym, refl, ap, ◌∙◌, subst, ap₂, ⊎_elim, mod-lt, div-lt_iff_lt-mul, div-add-mod', arith, length-drop, length-take}
use Rattle.std.proofs.lemmas.List.{get_or-take, get_or-drop, get_or_past}
use Rattle.std.proofs.lemmas.Bool.{cases_Bool, cases_lt, cond-true, cond-false, lt-ltb, le-ltb, not-false, or_parts, true≢false}
use Rattle.refusal.specs.Answer.{first}
use Rattle.refusal.specs.declared.kind.Refusal.TheVariants.{Damaged}
use Rattle.refusal.proofs.First.{first_none, first_all, none_left}
use Rattle.refusal.proofs.Turning.{refuse_later, refuse_not}
use Rattle.block.specs.Block.{Block, IsBlock}
use Rattle.store.specs.declared.kinds.Shape.{Shape}
use Rattle.store.specs.declared.kinds.State.{State}
use Rattle.store.specs.declared.kinds.State.TheVariants.{Empty, Open, Sealed}
use Rattle.store.specs.Meaning.{Limits, Within}
use Rattle.grid.specs.Index.{index, total}
use Rattle.grid.proofs.Grid.{by_ltb}
use Rattle.grid.proofs.Index.{index_below, index_slot, index_node, index_place}
use Rattle.grid.proofs.Row.{by_inside, row_at}
use Rattle.image_format.specs.Image.{start, size, record_at, head_at, record_of, head_of, state_from, cell_from, row_of, marks_of, grid_at, SoundImage}
use Rattle.image_reader.specs.Damage.{some_below, zeros, good_head, headed, present, is_empty, is_sealed, bad_cell, head_damage_at, head_damage, record_damage, node_damage, slot_damage, damage}
use Rattle.image_reader.proofs.Below.{some_at, none_from}
use Rattle.image_reader.proofs.Records.{head_good, good_head_of, record_headed, headed_record, record_blank, shows_block}

some_if : (t : Bool) (x b : Block) → cond t (Some x) None ≡ Some b → x ≡ b
some_if true x b e = cc
some_if false x b e = cc

same : (a b : Bool) → (a ≡ true → b ≡ true) → (b ≡ true → a ≡ true) → a ≡ b
same true b f g = sym (f refl)
same false true f g = g refl
same false false f g = refl

-- a number of the row, as slot, node and place
pub record Located (h : Shape) (i : ℕ) : Type 0 where
  pub slot : i / h.places / h.nodes < h.slots
  pub node : i / h.places % h.nodes < h.nodes
  pub place : i % h.places < h.places
  pub back : index h (i / h.places / h.nodes) (i / h.places % h.nodes) (i % h.places) ≡ i

located : (h : Shape) → Limits h → (i : ℕ) → i < total h → Located h i
located h l i lt =
    let P : 0 < h.places = omega (arith, l.places_least) in
    let N : 0 < h.nodes = omega (arith, l.nodes_least) in
    let row : i / h.places < h.slots * h.nodes = (div-lt_iff_lt-mul P).1 lt in
    record {
      slot = (div-lt_iff_lt-mul N).1 row;
      node = mod-lt (i / h.places) N;
      place = mod-lt i P;
      back = ap (λ r. r * h.places + i % h.places) (div-add-mod' (i / h.places) h.nodes) ∙ div-add-mod' i h.places;
    }

module _ (h : Shape) (limits : Limits h) (img : List ℕ) (long : length img ≡ size h) where
  record_long : (i : ℕ) → i < total h → length (record_at h img i) ≡ 72
  record_long i l = simp (length-take, length-drop) (omega arith)

  head_long : (s : ℕ) → s < h.slots → length (head_at img s) ≡ 8
  head_long s l = simp (length-take, length-drop) (omega arith)

  head_state : (s : ℕ) → s < h.slots → marks_of h img s ≡ state_from (get_or (head_at img s) 0 0)
  head_state s l =
      let q : 8 * s + 0 ≡ 8 * s = omega arith in
      cond-true (ltb s h.slots) _ _ (lt-ltb s h.slots l)
      ∙ ap state_from (sym (get_or-take 8 (drop (8 * s) img) 0 0 (omega arith) ∙ get_or-drop (8 * s) img 0 0 ∙ ap (λ x. get_or img x 0) q))

  -- undamaged, so as the format has it
  module _ (none : damage h img ≡ None) (small : (j : ℕ) → get_or img j 0 < 256) where
    heads_good : (s : ℕ) → s < h.slots → good_head (head_at img s) ≡ true
    heads_good s l =
        not-false (good_head (head_at img s)) (refuse_not _ (Damaged (8 * s)) None (first_none (head_damage_at img) h.slots s (none_left (head_damage h img) _ none).0 l))

    cells_good : (s n p : ℕ) → s < h.slots → n < h.nodes → p < h.places → bad_cell h img s n p ≡ false
    cells_good s n p s< n< p< =
        let slots = first_none (slot_damage h img) h.slots s (none_left (head_damage h img) _ none).1 s< in
        let nodes = first_none (node_damage h img s) h.nodes n slots n< in
        refuse_not _ (Damaged (start h (index h s n p))) None (first_none (record_damage h img s n) h.places p nodes p<)

    module _ (s n p : ℕ) (s< : s < h.slots) (n< : n < h.nodes) (p< : p < h.places) where
      abbrev bytes : List ℕ
      bytes = record_at h img (index h s n p)

      bytes_long : length bytes ≡ 72
      bytes_long = record_long (index h s n p) (index_below h s n p n< p< s<)

      -- a present cell, and one that is not
      used : present h img s n p ≡ true → is_empty (marks_of h img s) ≡ false
      used e = sym (cond-true (present h img s n p) _ _ e) ∙ cells_good s n p s< n< p<

      absent : present h img s n p ≡ false → (zeros bytes ≡ true) × ((is_sealed (marks_of h img s) && some_below (present h img s n) h.places) ≡ false)
      absent e =
          let q = or_parts (not (zeros bytes)) _ (sym (cond-false (present h img s n p) (is_empty (marks_of h img s)) _ e) ∙ cells_good s n p s< n< p<) in
          (not-false (zeros bytes) q.0, q.1)

      -- by cases: a block behind its head, or zeros
      told : {P : Type 0} → (present h img s n p ≡ true → row_of h img (index h s n p) ≡ Some (drop 8 bytes) → P)
          → (present h img s n p ≡ false → bytes ≡ replicate 72 0 → P) → P
      told held blank =
          ⊎_elim (λ t. held t (shows_block s n p bytes t)) (λ t. blank t (record_blank bytes bytes_long (absent t).0)) (cases_Bool (present h img s n p))

      shown : is_some (row_of h img (index h s n p)) ≡ present h img s n p
      shown = told (λ t r. ap is_some r ∙ sym t) (λ t z. ap (λ xs. is_some (cell_from xs)) z ∙ sym t)

      record_is : bytes ≡ record_of h (index h s n p) (row_of h img (index h s n p))
      record_is =
          told
          (λ t r. record_headed s n p bytes bytes_long t
          ∙ (λ i. 1 ∷ sym (index_slot h s n p n< p<) i ∷ sym (index_node h s n p n< p<) i ∷ sym (index_place h s n p n< p<) i ∷ 0 ∷ 0 ∷ 0 ∷ 0 ∷ drop 8 bytes)
          ∙ ap (record_of h (index h s n p)) (sym r))
          (λ t z. z ∙ ap (λ xs. record_of h (index h s n p) (cell_from xs)) (sym z))

      block_is : (b : Block) → row_of h img (index h s n p) ≡ Some b → IsBlock b
      block_is b e = subst IsBlock (some_if (eqb (get_or bytes 0 0) 1) (drop 8 bytes) b e) (record {
        size = simp length-drop (omega (arith, bytes_long));
        bytes = λ j. small_part j;
      })
        where
          small_part : (j : ℕ) → get_or (drop 8 bytes) j 0 < 256
          small_part j =
              rw (get_or-drop 8 bytes j 0)
              (⊎_elim (λ l. rw (get_or-take 72 (drop (start h (index h s n p)) img) (8 + j) 0 l, get_or-drop (start h (index h s n p)) img (8 + j) 0) (small _))
              (λ l. rw (get_or_past bytes (8 + j) 0 (omega (arith, bytes_long))) (omega arith)) (cases_lt (8 + j) 72))

    cell_none : (s n p : ℕ) → marks_of h img s ≡ Empty → (grid_at h img).cell s n p ≡ None
    cell_none s n p e =
        by_inside h s n p (λ t. cond t (row_of h img (index h s n p)) None ≡ None)
        (λ s< n< p<. told s n p s< n< p< (λ t r. absurd (true≢false (sym (ap is_empty e) ∙ used s n p s< n< p< t))) (λ t z. ap cell_from z))
        (λ _. refl)

    -- in a sealed slot a node has all its cells or none
    at_once : (s n p q : ℕ) → s < h.slots → n < h.nodes → p < h.places → q < h.places → marks_of h img s ≡ Sealed
        → present h img s n p ≡ true → present h img s n q ≡ true
    at_once s n p q s< n< p< q< z t =
        ⊎_elim (λ r. r)
        (λ r. absurd (true≢false (sym (ap₂ ◌&&◌ (ap is_sealed z) (some_at (present h img s n) h.places p p< t)) ∙ (absent s n q s< n< q< r).1)))
        (cases_Bool (present h img s n q))

    pub sound_image : SoundImage h img
    sound_image = record {
      grid = record {
        limits = limits;
        tidy = λ s. record {
          within = λ n p. by_inside h s n p (λ t. is_some (cond t (row_of h img (index h s n p)) None) ≡ true → Within h n p) (λ s< n< p< e. (n<, p<)) (λ _ e. cc);
          blocks = λ n p b. by_inside h s n p (λ t. cond t (row_of h img (index h s n p)) None ≡ Some b → IsBlock b)
              (λ s< n< p< e. block_is s n p s< n< p< b e) (λ _ e. cc);
        };
        past = λ s l. cond-false (ltb s h.slots) _ _ (le-ltb s h.slots l);
        vacant = cell_none;
        whole = λ s n p z w. whole_node s n p z w;
      };
      length = long;
      heads = λ s l. head_good (head_at img s) (head_long s l) (heads_good s l) ∙ ap head_of (sym (head_state s l));
      records = λ i l. let at = located h limits i l in
          subst (λ x. record_at h img x ≡ record_of h x (row_of h img x)) at.back
          (record_is (i / h.places / h.nodes) (i / h.places % h.nodes) (i % h.places) at.slot at.node at.place);
    }
      where
        sealed_within : (s : ℕ) → marks_of h img s ≡ Sealed → s < h.slots
        sealed_within s z =
            by_ltb s h.slots (λ b. cond b (state_from (get_or img (8 * s) 0)) Empty ≡ Sealed → s < h.slots) (λ l _. l) (λ _ q. cc) z

        whole_node : (s n p : ℕ) → marks_of h img s ≡ Sealed → Within h n p → is_some ((grid_at h img).cell s n p) ≡ is_some ((grid_at h img).cell s n 0)
        whole_node s n p z w =
            let s< = sealed_within s z in
            let first_place : 0 < h.places = omega (arith, limits.places_least) in
            let at : (q : ℕ) → q < h.places → is_some ((grid_at h img).cell s n q) ≡ present h img s n q =
            λ q l. ap is_some (row_at h (marks_of h img) (row_of h img) s n q s< w.0 l) ∙ shown s n q s< w.0 l in
            at p w.1
            ∙ same _ _ (at_once s n p 0 s< w.0 w.1 first_place z) (at_once s n 0 p s< w.0 first_place w.1 z)
            ∙ sym (at 0 first_place)

-- as the format has it, so undamaged
module _ (h : Shape) (img : List ℕ) (k : SoundImage h img) where
  module _ (s n p : ℕ) (s< : s < h.slots) (n< : n < h.nodes) (p< : p < h.places) where
    written_as : record_at h img (index h s n p) ≡ record_of h (index h s n p) (row_of h img (index h s n p))
    written_as = k.records (index h s n p) (index_below h s n p n< p< s<)

    cell_row : (grid_at h img).cell s n p ≡ row_of h img (index h s n p)
    cell_row = row_at h (marks_of h img) (row_of h img) s n p s< n< p<

    pub present_some : (v : Block) → row_of h img (index h s n p) ≡ Some v → present h img s n p ≡ true
    present_some v e =
        ap (headed s n p) (written_as ∙ ap (record_of h (index h s n p)) e)
        ∙ headed_record s n p _ _ _ v (index_slot h s n p n< p<) (index_node h s n p n< p<) (index_place h s n p n< p<)

    blank_none : row_of h img (index h s n p) ≡ None → record_at h img (index h s n p) ≡ replicate 72 0
    blank_none e = written_as ∙ ap (record_of h (index h s n p)) e

    present_none : row_of h img (index h s n p) ≡ None → present h img s n p ≡ false
    present_none e = ap (headed s n p) (blank_none e)

  none_present : (s n p : ℕ) → s < h.slots → n < h.nodes → p < h.places → marks_of h img s ≡ Sealed → row_of h img (index h s n p) ≡ None
      → some_below (present h img s n) h.places ≡ false
  none_present s n p s< n< p< z e =
      none_from (present h img s n) h.places
      (λ q q<. present_none s n q s< n< q<
      (no_block (row_of h img (index h s n q))
      (ap is_some (sym (cell_row s n q s< n< q<)) ∙ k.grid.whole s n q z (n<, q<) ∙ sym (k.grid.whole s n p z (n<, p<)) ∙ ap is_some (cell_row s n p s< n< p< ∙ e))))
    where
      no_block : (o : Option Block) → is_some o ≡ false → o ≡ None
      no_block None e = refl
      no_block (Some b) e = cc

  cell_fits : (s n p : ℕ) → s < h.slots → n < h.nodes → p < h.places → bad_cell h img s n p ≡ false
  cell_fits s n p s< n< p< = at (row_of h img (index h s n p)) refl
    where
      in_use : (v : Block) → row_of h img (index h s n p) ≡ Some v → (z : State) → marks_of h img s ≡ z → is_empty z ≡ false
      in_use v e Empty q = let none = sym (k.grid.vacant s n p q) ∙ cell_row s n p s< n< p< ∙ e in cc
      in_use v e Open q = refl
      in_use v e Sealed q = refl

      unsealed : row_of h img (index h s n p) ≡ None → (z : State) → marks_of h img s ≡ z → (is_sealed z && some_below (present h img s n) h.places) ≡ false
      unsealed e Empty q = refl
      unsealed e Open q = refl
      unsealed e Sealed q = none_present s n p s< n< p< q e

      at : (o : Option Block) → row_of h img (index h s n p) ≡ o → bad_cell h img s n p ≡ false
      at (Some v) e = cond-true (present h img s n p) _ _ (present_some s n p s< n< p< v e) ∙ in_use v e (marks_of h img s) refl
      at None e =
          cond-false (present h img s n p) _ _ (present_none s n p s< n< p< e)
          ∙ ap₂ (λ a b. not a || b) (ap zeros (blank_none s n p s< n< p< e)) (unsealed e (marks_of h img s) refl)

  pub undamaged : damage h img ≡ None
  undamaged =
      let heads : head_damage h img ≡ None =
      first_all (head_damage_at img) h.slots (λ s l. refuse_later _ (Damaged (8 * s)) None (ap not (ap good_head (k.heads s l) ∙ good_head_of (marks_of h img s)))) in
      let cells : first (slot_damage h img) h.slots ≡ None =
      first_all (slot_damage h img) h.slots (λ s s<. first_all (node_damage h img s) h.nodes (λ n n<.
      first_all (record_damage h img s n) h.places (λ p p<. refuse_later _ (Damaged (start h (index h s n p))) None (cell_fits s n p s< n< p<)))) in
      rw (heads, cells)
