-- A level keeps the laws of a store. Assumes nothing.
use Rattle.std.proofs.Common.{◌≡◌, ℕ, ◌+◌, ◌*◌, ◌<◌, ◌≤◌, true, ◌||◌, leb, is_some, ap, ◌∙◌, ap₂, ⊎_elim, add-mul, arith}
use Rattle.std.proofs.lemmas.Nat.{mul-le}
use Rattle.std.proofs.lemmas.Bool.{leb-true, le-leb, or_left, or_right, or_cases}
use Rattle.block.proofs.Counts.{count_same, count_le_of}
use Rattle.code.specs.Word.{Coding, count_held, lowest}
use Rattle.code.proofs.Lowest.{kept}
use Rattle.store.specs.Meaning.{Nodes, Cells, Slot, Meaning, Limits, Within, Tidy, LawfulSlot, Lawful}
use Rattle.store.specs.Meaning.Slot.{empty, opened, sealed}
use Rattle.stripe_map.specs.declared.layout.Layout.{Layout}
use Rattle.stripe_map.specs.declared.layout.Stripe.{Stripe}
use Rattle.stripe_map.specs.Map.{node_of, place_of, stripe_of, block_of, Among}
use Rattle.stripe_map.proofs.Back.{data_place, block_below, stripe_among, node_within, place_within}
use Rattle.level.specs.Level.{Fits, held_of, level_shape, covered_of, level_covers, inside, open_cells, sealed_cells, level_slot, level}
use Rattle.level.proofs.Ways.{cell_cases, cell_some, some_test}
use Rattle.level.proofs.Words.{Law, inside_is, is_inside, held_is, held_blocks, whole_word}

module _ (l : Layout) (m : Meaning) (L : Lawful m) (F : Fits l m.shape) where
  abbrev w : ℕ
  w = l.k + l.m

  pub below_node : (n : ℕ) → n < l.nodes → n < m.shape.nodes
  below_node n h = omega (arith, h, F.nodes)

  pub level_node : (n : ℕ) → n < m.shape.nodes → n < l.nodes
  level_node n h = omega (arith, h, F.nodes)

  level_within : (n p : ℕ) → (n < l.nodes) × (p < l.k * l.lanes) → Within (level_shape l m.shape) n p
  level_within n p h = (below_node n h.0, h.1)

  -- the blocks of a stripe, and the level's cells, lie within the store beneath
  pub block_within : (s : Stripe) (i : ℕ) → Among l s → i < w → Within m.shape (node_of l s i) (place_of l s i)
  block_within s i a h = (below_node (node_of l s i) (node_within l s i a), let d = place_within l s i w a h in omega (arith, d, F.places))

  pub cell_within : (n p : ℕ) → Within (level_shape l m.shape) n p → Within m.shape n p
  cell_within n p h = (h.0, let d = data_place l p h.1 in omega (arith, d, F.places))

  level_limits : Limits (level_shape l m.shape)
  level_limits =
      let some : 1 * 1 ≤ l.k * l.lanes = mul-le 1 1 l.k l.lanes l.few.0 l.lane.0 in
      let split : (l.k + l.m) * l.lanes ≡ l.k * l.lanes + l.m * l.lanes = add-mul l.k l.m l.lanes in
      record {
        nodes_least = L.limits.nodes_least;
        nodes_most = L.limits.nodes_most;
        places_least = omega (arith, some);
        places_most = omega (arith, split, F.places, L.limits.places_most);
        slots_least = L.limits.slots_least;
        slots_most = L.limits.slots_most;
      }

  -- more of a stripe is covered against fewer losses
  covered_fewer : (s : Stripe) (d e : Nodes) → Among l s → ((x : ℕ) → e x ≡ true → d x ≡ true)
      → leb l.k (covered_of l m.covers s d) ≡ true → leb l.k (covered_of l m.covers s e) ≡ true
  covered_fewer s d e a sub h =
      let before = leb-true l.k (covered_of l m.covers s d) h in
      let more = count_le_of (λ i. m.covers (node_of l s i) (place_of l s i) d) (λ i. m.covers (node_of l s i) (place_of l s i) e) w
      (λ i lt. L.fewer (node_of l s i) (place_of l s i) d e (block_within s i a lt) sub) in
      le-leb l.k (covered_of l m.covers s e) (omega arith)

  -- as many blocks of a stripe are there as the rule covers
  pub held_covered : (s : Stripe) (d : Nodes) (c : Cells) → Among l s
      → ((n p : ℕ) → Within m.shape n p → is_some (c n p) ≡ m.covers n p d)
      → count_held (held_of l c s) w ≡ covered_of l m.covers s d
  held_covered s d c a r = count_same (λ i. is_some (held_of l c s i)) (λ i. m.covers (node_of l s i) (place_of l s i) d) w
      (λ i lt. ap is_some (held_is l c s i lt) ∙ r (node_of l s i) (place_of l s i) (block_within s i a lt))

  module _ (K : Coding) (D : Law l K) where
    open_tidy : (c : Cells) → Tidy m.shape c → Tidy (level_shape l m.shape) (open_cells l c)
    open_tidy c t = record {
      within = λ n p h. level_within n p (inside_is l n p (some_test (inside l n p) (c n p) h).0);
      blocks = λ n p b h. t.blocks n p b (kept (inside l n p) (c n p) b h).1;
    }

    sealed_tidy : (c : Cells) → Tidy m.shape c → Tidy (level_shape l m.shape) (sealed_cells l K.whole c)
    sealed_tidy c t = record {
      within = λ n p h. level_within n p (inside_is l n p (some_test (inside l n p) _ h).0);
      blocks = λ n p b e.
          let s = stripe_of l n p in
          let h = held_of l c s in
          let ways = cell_cases (inside l n p) (leb l.k (count_held h w)) (c n p) (K.whole (lowest l.k h) (block_of l p)) b e in
          let lt = data_place l p (inside_is l n p ways.0).1 in
          ⊎_elim (t.blocks n p b)
          (λ r. rw (← r.1) (D.completes.blocks (K.whole (lowest l.k h)) (block_of l p)
          (whole_word l K D h (held_blocks l K D m.shape c t s) (leb-true l.k (count_held h w) r.0)) (block_below l p w lt)))
          ways.1;
    }

    lawful_slot : (s : Slot) → LawfulSlot m.shape m.covers s
        → LawfulSlot (level_shape l m.shape) (level_covers l m.covers) (level_slot l K.whole s)
    lawful_slot empty h = tt
    lawful_slot (opened c) h = open_tidy c h
    lawful_slot (sealed d c) h = record {
      tidy = sealed_tidy c h.tidy;
      covered = λ n p i.
          let s = stripe_of l n p in
          let a = stripe_among l n p (level_node n i.0) in
          cell_some (inside l n p) (leb l.k (count_held (held_of l c s) w)) (c n p) (K.whole (lowest l.k (held_of l c s)) (block_of l p)) (is_inside l n p (level_node n i.0) i.1)
          ∙ ap₂ (λ u v. u || leb l.k v) (h.covered n p (cell_within n p i)) (held_covered s d c a h.covered);
      lost = h.lost;
    }

    pub level_lawful : Lawful (level l K.whole m)
    level_lawful = record {
      limits = level_limits;
      alive = λ n p d i h. or_left _ _ (L.alive n p d (cell_within n p i) h);
      fewer = λ n p d e i sub h.
          ⊎_elim
          (λ r. or_left _ _ (L.fewer n p d e (cell_within n p i) sub r))
          (λ r. or_right _ _
          (covered_fewer (stripe_of l n p) d e (stripe_among l n p (level_node n i.0)) sub r))
          (or_cases (m.covers n p d) _ h);
      slots = λ s. lawful_slot (m.slot s) (L.slots s);
      past = λ s h. ap (level_slot l K.whole) (L.past s h);
    }
