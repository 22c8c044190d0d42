-- A sound level keeps its promise. Assumes nothing.
use Rattle.std.proofs.Common.{◌≡◌, ◌+◌, ◌<◌, true, is_some, Some, None, Option, sym, refl, ap, ◌∙◌, subst, inl, inr, ⊎_elim, arith}
use Rattle.std.proofs.lemmas.Bool.{leb-true, le-leb, or_left, or_right, or_cases, false≢true}
use Rattle.block.specs.Block.{Block}
use Rattle.code.specs.Word.{Coding}
use Rattle.store.specs.Meaning.{Nodes, Cells, Slot, Meaning, SealedLaw, LawfulSlot, Lawful}
use Rattle.store.specs.Meaning.Slot.{sealed}
use Rattle.store.specs.Calls.{cells_of}
use Rattle.stripe_map.specs.declared.layout.Layout.{Layout}
use Rattle.stripe_map.specs.declared.layout.Stripe.{Stripe}
use Rattle.stripe_map.specs.Map.{node_of, place_of, block_of, Among}
use Rattle.stripe_map.proofs.Back.{data_place, stripe_among, node_back, place_back, block_on, stripe_on, node_within, place_within}
use Rattle.level.specs.Level.{level_slot, sealed_cells, level, StripeWord, SlotWords, Laid}
use Rattle.level.specs.Promise.{OneWord, LevelPromise}
use Rattle.level.proofs.Words.{Law, held_is, cell_word}
use Rattle.level.proofs.Lawful.{level_lawful, block_within, below_node, level_node}

some_of : (o : Option Block) → is_some o ≡ true → (b : Block) × (o ≡ Some b)
some_of (Some b) e = (b, refl)
some_of None e = absurd (false≢true e)

module _ (l : Layout) (K : Coding) (D : Law l K) (b : Meaning) (L : Lawful b) (a : Laid l K b) where
  abbrev above : Meaning
  above = level l K.whole b

  one_word_of : (d : Nodes) (c : Cells) → SealedLaw b.shape b.covers d c → SealedLaw above.shape above.covers d (sealed_cells l K.whole c)
      → SlotWords l K.Word (sealed d c) → (s : Stripe) → Among l s → OneWord l K.Word b above d c (sealed_cells l K.whole c) s
  one_word_of d c law up words s A =
      let v = words s A in
      let F = a.matches.fits in
      record {
        word = v.blocks;
        is_word = v.word;
        below_has = λ i lt h.
            let n = node_of l s i in
            let p = place_of l s i in
            let o = some_of (c n p) (law.covered n p (block_within l b L F s i A lt) ∙ h) in
            o.1 ∙ ap Some (sym (v.has i o.0 lt (held_is l c s i lt ∙ o.1)));
        level_has = λ i lt h.
            let n = node_of l s i in
            let p = place_of l s i in
            let lt' : i < l.k + l.m = omega arith in
            let o = some_of (sealed_cells l K.whole c n p) (up.covered n p (below_node l b L F n (node_within l s i A), place_within l s i l.k A lt) ∙ h) in
            let Q : Stripe → Type 0 = λ x. (y : StripeWord l K.Word c x) → y.blocks (block_of l p) ≡ o.0 in
            let q : v.blocks (block_of l p) ≡ o.0 = subst Q (stripe_on l s i A lt') (λ y. cell_word l K D b.shape c law.tidy n p o.0 y o.1) v in
            o.1 ∙ ap Some (sym q ∙ ap v.blocks (block_on l s i A.lane));
      }

  one_word : (z : Slot) → LawfulSlot b.shape b.covers z → LawfulSlot above.shape above.covers (level_slot l K.whole z) → SlotWords l K.Word z
      → (d : Nodes) (c : Cells) → z ≡ sealed d c → (s : Stripe) → Among l s → OneWord l K.Word b above d c (cells_of (level_slot l K.whole z)) s
  one_word z law up words d c e =
      subst At (sym e) one_word_of' law up words
    where
      At : Slot → Type 0
      At y = LawfulSlot b.shape b.covers y → LawfulSlot above.shape above.covers (level_slot l K.whole y) → SlotWords l K.Word y
          → (s : Stripe) → Among l s → OneWord l K.Word b above d c (cells_of (level_slot l K.whole y)) s

      one_word_of' : At (sealed d c)
      one_word_of' = one_word_of d c

  pub promised : LevelPromise l K.Word b above
  promised = record {
    only_covers = λ n p d w h. ⊎_elim inl (λ e. inr (leb-true l.k _ e)) (or_cases (b.covers n p d) _ h);
    covers_below = λ n p d w h. or_left _ _ h;
    covers_stripe = λ n p d w h. or_right _ _ (le-leb l.k _ h);
    words = λ s d c e st A. one_word (b.slot s) (L.slots s) ((level_lawful l b L a.matches.fits K D).slots s) (a.words s) d c e st A;
    lies = λ n p w. (stripe_among l n p (level_node l b L a.matches.fits n w.0), node_back l n p (data_place l p w.1), place_back l n p);
    back = λ s c A lt. (stripe_on l s c A lt, block_on l s c A.lane);
  }
