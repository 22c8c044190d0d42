-- Getting a cell of the level: what the store beneath answers, or what the stripe gives. Assumes nothing.
use Rattle.std.proofs.Common.{◌≡◌, ℕ, ◌*◌, ◌<◌, Bool, true, false, cond, not, ◌&&◌, eqb, ltb, leb, ◌⊎◌, List, length, is_some, Some, None, Err, Option, Result, unwrap_or, sym, refl, ap, ◌∙◌, ap₂, inl, inr, ⊎_elim, arith}
use Rattle.std.proofs.lemmas.Bool.{lt-leb, leb-false, lt-ltb, cond-true, eqb-true, not-false, false≢true}
use Rattle.std.specs.Option.{option_or}
use Rattle.refusal.specs.Answer.{refuse, outcome, unless}
use Rattle.refusal.specs.declared.kind.Refusal.{Refusal}
use Rattle.refusal.specs.declared.kind.Refusal.TheVariants.{Slot as BadSlot, Length, Missing}
use Rattle.refusal.proofs.Turning.{refuse_not, refuse_rest}
use Rattle.block.specs.Block.{Block}
use Rattle.code.specs.Word.{Coding}
use Rattle.store.specs.Meaning.{Slot, Meaning}
use Rattle.store.specs.Meaning.Slot.{empty, opened, sealed}
use Rattle.store.specs.Calls.{cells_of, cell_refusal, get_refusal, GetAnswer}
use Rattle.stripe_map.specs.declared.layout.Layout.{Layout}
use Rattle.stripe_map.specs.Map.{stripe_of, block_of}
use Rattle.stripe_map.proofs.Back.{data_place}
use Rattle.level.specs.Level.{Fits, held_of, restored, inside, level_slot, level}
use Rattle.level.specs.Stripes.{RestoreAnswer, from_stripe, is_missing, is_sealed}
use Rattle.level.proofs.Ways.{by_sealed, turns_along}
use Rattle.level.proofs.Words.{is_inside}

-- the refusals that come after node and place
abbrev later : Bool → Bool → Option Refusal → Option Refusal
later v w rest = refuse v BadSlot (refuse w Length rest)

later_same : (v w : Bool) (a b : Option Refusal) → (v ≡ false → w ≡ false → a ≡ b) → later v w a ≡ later v w b
later_same true w a b h = refl
later_same false true a b h = refl
later_same false false a b h = h refl refl

-- a slot beneath gives for a cell what the level's slot gives
record Same (s t : Slot) (n p : ℕ) : Type 0 where
  refusal : cell_refusal s n p ≡ cell_refusal t n p
  cell : cells_of s n p ≡ cells_of t n p

-- a gap beneath
record Gap (s : Slot) (n p : ℕ) : Type 0 where
  sealed : is_sealed s ≡ true
  none : cells_of s n p ≡ None

sealed_refusal : (s : Slot) (n p : ℕ) → is_sealed s ≡ true → cell_refusal s n p ≡ refuse (not (is_some (cells_of s n p))) (Missing n p) None
sealed_refusal s n p e = by_sealed (λ z. cell_refusal z n p ≡ refuse (not (is_some (cells_of z n p))) (Missing n p) None) (λ d c. refl) s e

module _ (l : Layout) (K : Coding) (n p : ℕ) (i : inside l n p ≡ true) where
  same_or_gap : (s : Slot) → Same s (level_slot l K.whole s) n p ⊎ Gap s n p
  same_or_gap empty = inl (record { refusal = refl; cell = refl })
  same_or_gap (opened c) =
      let e : c n p ≡ cond (inside l n p) (c n p) None = sym (cond-true (inside l n p) (c n p) None i) in
      inl (record { refusal = ap (λ o. refuse (not (is_some o)) (Missing n p) None) e; cell = e })
  same_or_gap (sealed d c) = at (c n p) refl
    where
      at : (o : Option Block) → c n p ≡ o → Same (sealed d c) (level_slot l K.whole (sealed d c)) n p ⊎ Gap (sealed d c) n p
      at None e = inr (record { sealed = refl; none = e })
      at (Some b) e =
          let word = restored l K.whole (held_of l c (stripe_of l n p)) (block_of l p) in
          let q : c n p ≡ cells_of (level_slot l K.whole (sealed d c)) n p
          = e ∙ ap (λ o. option_or o word) (sym e) ∙ sym (cond-true (inside l n p) (option_or (c n p) word) None i) in
          inl (record { refusal = ap (λ o. refuse (not (is_some o)) (Missing n p) None) q; cell = q })

  -- what the level has at a gap beneath
  gap_cell : (s : Slot) → Gap s n p → cells_of (level_slot l K.whole s) n p ≡ restored l K.whole (held_of l (cells_of s) (stripe_of l n p)) (block_of l p)
  gap_cell s g =
      let word : Slot → Option Block = λ z. restored l K.whole (held_of l (cells_of z) (stripe_of l n p)) (block_of l p) in
      by_sealed (λ z. cells_of z n p ≡ None → cells_of (level_slot l K.whole z) n p ≡ word z)
      (λ d c e. cond-true (inside l n p) (option_or (c n p) (word (sealed d c))) None i ∙ ap (λ o. option_or o (word (sealed d c))) e) s g.sealed g.none

  level_sealed : (s : Slot) → is_sealed s ≡ true → is_sealed (level_slot l K.whole s) ≡ true
  level_sealed s e = by_sealed (λ z. is_sealed (level_slot l K.whole z) ≡ true) (λ d c. refl) s e

module _ (l : Layout) (K : Coding) (b : Meaning) (F : Fits l b.shape) (s n p : ℕ) (hn : n < l.nodes) (hp : p < l.k * l.lanes)
    (old new : List ℕ) (r : Result Unit Refusal) (q : GetAnswer b s n p old r new) where
  abbrev v : Bool
  v = leb b.shape.slots s

  abbrev w : Bool
  w = not (eqb (length old) 64)

  -- node and place are in range, beneath and above
  below_later : get_refusal b s n p (length old) ≡ later v w (cell_refusal (b.slot s) n p)
  below_later =
      let d = data_place l p hp in
      let x : leb b.shape.nodes n ≡ false = lt-leb b.shape.nodes n (omega (arith, hn, F.nodes)) in
      let y : leb b.shape.places p ≡ false = lt-leb b.shape.places p (omega (arith, d, F.places)) in
      rw (x, y)

  level_later : get_refusal (level l K.whole b) s n p (length old) ≡ later v w (cell_refusal (level_slot l K.whole (b.slot s)) n p)
  level_later =
      let x : leb b.shape.nodes n ≡ false = lt-leb b.shape.nodes n (omega (arith, hn, F.nodes)) in
      let y : leb (l.k * l.lanes) p ≡ false = lt-leb (l.k * l.lanes) p hp in
      rw (x, y)

  -- what is not missing in a sealed slot is handed on
  pub get_passes : (is_missing r && (ltb s b.shape.slots && is_sealed (b.slot s))) ≡ false → GetAnswer (level l K.whole b) s n p old r new
  get_passes h = turns_along (λ o. o) _ _ old _ _ r new
      (below_later ∙ later_same v w _ _ (λ x y. (both x y).refusal) ∙ sym level_later)
      (λ e.
      let f = sym below_later ∙ e in
      let x = refuse_not v BadSlot _ f in
      let y = refuse_not w Length _ (refuse_rest v BadSlot _ f) in
      ap (λ o. unwrap_or o old) (both x y).cell) q
    where
      never : v ≡ false → w ≡ false → Gap (b.slot s) n p → ⊥
      never x y g =
          let e : r ≡ Err (Missing n p) = q.answer ∙ ap (λ f. outcome f tt) (below_later ∙ ap₂ (λ a c. later a c (cell_refusal (b.slot s) n p)) x y
          ∙ sealed_refusal (b.slot s) n p g.sealed ∙ ap (λ o. refuse (not (is_some o)) (Missing n p) None) g.none) in
          false≢true (sym h ∙ ap₂ (λ z t. is_missing z && t) e (ap₂ ◌&&◌ (lt-ltb s b.shape.slots (leb-false b.shape.slots s x)) g.sealed))

      both : v ≡ false → w ≡ false → Same (b.slot s) (level_slot l K.whole (b.slot s)) n p
      both x y = ⊎_elim (λ z. z) (λ g. absurd (never x y g)) (same_or_gap l K n p (is_inside l n p hn hp) (b.slot s))

  -- a gap beneath, for which the stripe is asked
  module _ (missing : is_missing r ≡ true) (in_sealed : is_sealed (b.slot s) ≡ true) where
    at_gap : (v ≡ false) × (w ≡ false) × (cells_of (b.slot s) n p ≡ None)
    at_gap = split v w (cells_of (b.slot s) n p) (sym missing ∙ ap is_missing (q.answer ∙ ap (λ f. outcome f tt) (below_later ∙ ap (later v w) (sealed_refusal (b.slot s) n p in_sealed))))
      where
        split : (v w : Bool) (o : Option Block) → true ≡ is_missing (outcome (later v w (refuse (not (is_some o)) (Missing n p) None)) tt) → (v ≡ false) × (w ≡ false) × (o ≡ None)
        split true w o e = absurd (false≢true (sym e))
        split false true o e = absurd (false≢true (sym e))
        split false false None e = (refl, refl, refl)
        split false false (Some x) e = absurd (false≢true (sym e))

    pub get_long : length old ≡ 64
    get_long = eqb-true (length old) 64 (not-false (eqb (length old) 64) at_gap.1)

    pub get_slot : s < b.shape.slots
    get_slot = leb-false b.shape.slots s at_gap.0

    pub get_untouched : new ≡ old
    get_untouched = q.leaves ∙ kept (get_refusal b s n p (length old)) ∙ ap (λ o. unwrap_or o old) at_gap.2
      where
        kept : (f : Option Refusal) → unless f old (unwrap_or (cells_of (b.slot s) n p) old) ≡ unwrap_or (cells_of (b.slot s) n p) old
        kept None = refl
        kept (Some y) = sym (ap (λ o. unwrap_or o old) at_gap.2)

    pub get_restores : (r' : Result Unit Refusal) (new' : List ℕ) → RestoreAnswer (from_stripe l K b s n p) n p old r' new' → GetAnswer (level l K.whole b) s n p old r' new'
    get_restores r' new' a =
        let g = at_gap in
        let i = is_inside l n p hn hp in
        let cell = gap_cell l K n p i (b.slot s) (record { sealed = in_sealed; none = g.2 }) in
        let f : get_refusal (level l K.whole b) s n p (length old) ≡ refuse (not (is_some (from_stripe l K b s n p))) (Missing n p) None
        = level_later ∙ ap₂ (λ x y. later x y (cell_refusal (level_slot l K.whole (b.slot s)) n p)) g.0 g.1
        ∙ sealed_refusal (level_slot l K.whole (b.slot s)) n p (level_sealed l K n p i (b.slot s) in_sealed)
        ∙ ap (λ u. refuse (not (is_some u)) (Missing n p) None) cell in
        turns_along (λ o. o) _ _ old _ _ r' new' (sym f) (λ _. ap (λ u. unwrap_or u old) (sym cell)) a
