-- Losing a node beneath is losing it in the level. Assumes nothing.
use Rattle.std.proofs.Common.{◌≡◌, ℕ, ◌+◌, ◌*◌, ◌<◌, ◌≤◌, Bool, true, false, cond, eqb, ltb, leb, is_some, Some, None, Option, sym, refl, ap, ◌∙◌, arith}
use mathlib.Core.Path.{fun_ext}
use Rattle.std.proofs.lemmas.Bool.{leb-true, le-leb, or_left}
use Rattle.block.specs.Block.{Block, Blocks}
use Rattle.block.proofs.Counts.{count_le_of}
use Rattle.code.specs.Word.{Coding, count_held, lowest, Has}
use Rattle.code.proofs.Lowest.{kept}
use Rattle.store.specs.Meaning.{Nodes, Cells, Slot, Rule, Meaning, Within, Tidy, SealedLaw, LawfulSlot, Lawful}
use Rattle.store.specs.Meaning.Slot.{empty, opened, sealed}
use Rattle.store.specs.Calls.{with_node, lost_slot}
use Rattle.stripe_map.specs.declared.layout.Layout.{Layout}
use Rattle.stripe_map.specs.declared.layout.Stripe.{Stripe}
use Rattle.stripe_map.specs.Map.{node_of, place_of, stripe_of, block_of}
use Rattle.stripe_map.proofs.Back.{data_place, block_below, stripe_among}
use Rattle.level.specs.Level.{Fits, held_of, covered_of, level_covers, inside, level_slot, SlotWords}
use Rattle.level.proofs.Ways.{some_test, some_under, lost_cell, lost_open, Facts}
use Rattle.level.proofs.Words.{Law, inside_is, held_blocks, whole_is, below_word}
use Rattle.level.proofs.Lawful.{below_node, held_covered}

-- the cells that the rule still covers
abbrev left : Rule → Nodes → Cells → Cells
left rule d c n p = cond (rule n p d) (c n p) None

-- what is left of a stripe was there before
left_held : (l : Layout) (rule : Rule) (d : Nodes) (c : Cells) (s : Stripe) (i : ℕ) (b : Block)
    → held_of l (left rule d c) s i ≡ Some b → held_of l c s i ≡ Some b
left_held l rule d c s i b e = both (ltb i (l.k + l.m)) (rule (node_of l s i) (place_of l s i) d) (c (node_of l s i) (place_of l s i)) e
  where
    both : (t r : Bool) (o : Option Block) → cond t (cond r o None) None ≡ Some b → cond t o None ≡ Some b
    both true r o e = (kept r o b e).1
    both false r o e = e

left_has : (l : Layout) (rule : Rule) (d : Nodes) (c : Cells) (s : Stripe) (v : Blocks)
    → Has (l.k + l.m) v (held_of l c s) → Has (l.k + l.m) v (held_of l (left rule d c) s)
left_has l rule d c s v h i b lt e = h i b lt (left_held l rule d c s i b e)

-- every stripe keeps its word
pub lost_words : (l : Layout) (rule : Rule) (Word : Blocks → Type 0) (x : ℕ) (s : Slot) → SlotWords l Word s → SlotWords l Word (lost_slot rule x s)
lost_words l rule Word x empty h = tt
lost_words l rule Word x (opened c) h = tt
lost_words l rule Word x (sealed d c) h = λ s a. record { blocks = (h s a).blocks; word = (h s a).word; has = left_has l rule (with_node d x) c s (h s a).blocks (h s a).has }

module _ (l : Layout) (m : Meaning) (L : Lawful m) (F : Fits l m.shape) (K : Coding) (D : Law l K) where
  abbrev w : ℕ
  w = l.k + l.m

  left_tidy : (d : Nodes) (c : Cells) → Tidy m.shape c → Tidy m.shape (left m.covers d c)
  left_tidy d c t = record {
    within = λ n p h. t.within n p (some_test (m.covers n p d) (c n p) h).1;
    blocks = λ n p b h. t.blocks n p b (kept (m.covers n p d) (c n p) b h).1;
  }

  left_covered : (d : Nodes) (z : ℕ) (c : Cells) → ((n p : ℕ) → Within m.shape n p → is_some (c n p) ≡ m.covers n p d)
      → (n p : ℕ) → Within m.shape n p → is_some (left m.covers (with_node d z) c n p) ≡ m.covers n p (with_node d z)
  left_covered d z c r n p i =
      some_under (m.covers n p (with_node d z)) (c n p) (λ e. r n p i ∙ L.fewer n p (with_node d z) d i (λ y h. or_left (d y) (eqb y z) h) e)

  -- what is held after the loss was held before
  held_before : (t r : Bool) (o : Option Block) → is_some (cond t (cond r o None) None) ≡ true → is_some (cond t o None) ≡ true
  held_before true r o h = (some_test r o h).1
  held_before false r o h = h

  lost_facts : (z : ℕ) (d : Nodes) (c : Cells) → SealedLaw m.shape m.covers d c → SlotWords l K.Word (sealed d c)
      → (n p : ℕ) → inside l n p ≡ true
      → Facts (m.covers n p (with_node d z))
      (leb l.k (count_held (held_of l (left m.covers (with_node d z) c) (stripe_of l n p)) w))
      (leb l.k (covered_of l m.covers (stripe_of l n p) (with_node d z)))
      (leb l.k (count_held (held_of l c (stripe_of l n p)) w))
      (c n p)
      (K.whole (lowest l.k (held_of l (left m.covers (with_node d z) c) (stripe_of l n p))) (block_of l p))
      (K.whole (lowest l.k (held_of l c (stripe_of l n p))) (block_of l p))
  lost_facts z d c law words n p i =
      let s = stripe_of l n p in
      let c' = left m.covers (with_node d z) c in
      let h = held_of l c s in
      let h' = held_of l c' s in
      let in_range = inside_is l n p i in
      let lt : p < w * l.lanes = data_place l p in_range.1 in
      let a = stripe_among l n p in_range.0 in
      let v = words s a in
      let b = block_below l p w lt in
      let tidy' : Tidy m.shape c' = left_tidy (with_node d z) c law.tidy in
      let wi : Within m.shape n p = (below_node l m L F n in_range.0, omega (arith, lt, F.places)) in
      let fewer : count_held h' w ≤ count_held h w =
      count_le_of (λ j. is_some (h' j)) (λ j. is_some (h j)) w (λ j _. held_before (ltb j w) (m.covers (node_of l s j) (place_of l s j) (with_node d z)) (c (node_of l s j) (place_of l s j))) in
      let is' : leb l.k (count_held h' w) ≡ true → K.whole (lowest l.k h') (block_of l p) ≡ v.blocks (block_of l p)
      = λ e. whole_is l K D h' v.blocks (block_of l p) (held_blocks l K D m.shape c' tidy' s) (leb-true l.k (count_held h' w) e) v.word (left_has l m.covers (with_node d z) c s v.blocks v.has) b in
      let more : leb l.k (count_held h' w) ≡ true → l.k ≤ count_held h w = λ e. let q = leb-true l.k (count_held h' w) e in omega arith in
      record {
        rule = ap (leb l.k) (held_covered l m L F s (with_node d z) c' a (left_covered d z c law.covered));
        there = λ e. law.covered n p wi ∙ L.fewer n p (with_node d z) d wi (λ y q. or_left (d y) (eqb y z) q) e;
        before = λ e. le-leb l.k (count_held h w) (more e);
        same = λ e. whole_is l K D h v.blocks (block_of l p) (held_blocks l K D m.shape c law.tidy s) (more e) v.word v.has b ∙ sym (is' e);
        agrees = λ o e q. sym (below_word l K D m.shape c law.tidy n p o v lt q) ∙ sym (is' e);
      }

  pub lost_level : (z : ℕ) (s : Slot) → LawfulSlot m.shape m.covers s → SlotWords l K.Word s
      → level_slot l K.whole (lost_slot m.covers z s) ≡ lost_slot (level_covers l m.covers) z (level_slot l K.whole s)
  lost_level z empty law words = refl
  lost_level z (opened c) law words = ap opened (fun_ext (λ n. fun_ext (λ p. lost_open (inside l n p) (eqb n z) (c n p))))
  lost_level z (sealed d c) law words = ap (sealed (with_node d z)) (fun_ext (λ n. fun_ext (λ p.
      lost_cell (inside l n p) _ _ _ _ (c n p) _ _ (lost_facts z d c law words n p))))
