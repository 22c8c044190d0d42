-- Writing the checks of a slot, one after the other. Assumes nothing.
use Rattle.std.proofs.Common.{◌≡◌, ℕ, ◌+◌, ◌*◌, ◌<◌, Bool, true, false, cond, ◌&&◌, eqb, ltb, ◌⊎◌, List, Some, None, sym, refl, ap, ◌∙◌, subst, ap₂, inl, inr, ⊎_elim, arith}
use mathlib.Core.Path.{fun_ext}
use Rattle.std.proofs.lemmas.Bool.{ltb-true, eq-eqb, eqb-true, cond-true, cond-false, cases_lt, cases_Bool, and_parts, and_from}
use Rattle.block.specs.Block.{Block, Blocks, Held}
use Rattle.store.specs.Meaning.{Slot, Meaning}
use Rattle.store.specs.Meaning.Slot.{opened}
use Rattle.store.specs.Calls.{is_open, cells_of, with_slot, with_cell}
use Rattle.stripe_map.specs.declared.layout.Layout.{Layout}
use Rattle.stripe_map.specs.declared.layout.Stripe.{Stripe}
use Rattle.stripe_map.specs.Map.{node_of, place_of, stripe_of, block_of, Among}
use Rattle.stripe_map.proofs.Back.{stripe_among, place_within}
use Rattle.level.specs.Checks.{Ready, CheckPlace, data_of, check_at, OneCheck, checked_one, Written, NodeTo, NodesTo}
use Rattle.level.proofs.Ways.{by_open, by_slots}

abbrev OnChecks : Layout → (ℕ → ℕ → Type 0) → Type 0
OnChecks l D = (n p : ℕ) → D n p → CheckPlace l n p

slot_at : (m : Meaning) (s : ℕ) (x : Slot) → (with_slot m s x).slot s ≡ x
slot_at m s x = cond-true (eqb s s) x (m.slot s) (eq-eqb s s refl)

-- the later of two changes of a slot
pub twice : (m : Meaning) (s : ℕ) (x y : Slot) → with_slot (with_slot m s x) s y ≡ with_slot m s y
twice m s x y = by_slots m _ _ (λ t. at (eqb t s) (m.slot t))
  where
    at : (q : Bool) (z : Slot) → cond q y (cond q x z) ≡ cond q y z
    at true z = refl
    at false z = refl

unchanged : (m : Meaning) (s : ℕ) → is_open (m.slot s) ≡ true → m ≡ with_slot m s (opened (cells_of (m.slot s)))
unchanged m s o = by_slots m _ _ (λ t. at t (eqb t s) refl)
  where
    at : (t : ℕ) (q : Bool) → eqb t s ≡ q → m.slot t ≡ cond q (opened (cells_of (m.slot s))) (m.slot t)
    at t false e = refl
    at t true e = ap m.slot (eqb-true t s e) ∙ by_open (λ z. z ≡ opened (cells_of z)) (λ c. refl) (m.slot s) o

module _ (l : Layout) (whole : Held → Blocks) (s : ℕ) where
  module _ (D : ℕ → ℕ → Type 0) (on : OnChecks l D) (m m' : Meaning) (w : Written l whole D s m m') where
    -- the level's cells are as they were
    pub data_same : (n p : ℕ) → p < l.k * l.lanes → cells_of (m'.slot s) n p ≡ cells_of (m.slot s) n p
    data_same n p h = w.others n p (λ d. let z = (on n p d).least in omega arith)

    stripe_same : (st : Stripe) → Among l st → data_of l (cells_of (m'.slot s)) st ≡ data_of l (cells_of (m.slot s)) st
    stripe_same st a = fun_ext (λ i. at i (ltb i l.k) refl)
      where
        at : (i : ℕ) (q : Bool) → ltb i l.k ≡ q → cond q (cells_of (m'.slot s) (node_of l st i) (place_of l st i)) None ≡ cond q (cells_of (m.slot s) (node_of l st i) (place_of l st i)) None
        at i true e = data_same (node_of l st i) (place_of l st i) (place_within l st i l.k a (ltb-true i l.k e))
        at i false e = refl

    check_same : (n p : ℕ) → n < l.nodes → check_at l whole (cells_of (m'.slot s)) n p ≡ check_at l whole (cells_of (m.slot s)) n p
    check_same n p h = ap (λ x. whole x (block_of l p)) (stripe_same (stripe_of l n p) (stripe_among l n p h))

    pub open_still : is_open (m'.slot s) ≡ true
    open_still = ap (λ x. is_open (x.slot s)) w.same ∙ ap is_open (slot_at m s (opened (cells_of (m'.slot s))))

    ready_still : (bytes : List ℕ) → Ready l m s bytes → Ready l m' s bytes
    ready_still bytes r = record {
      unsealed = record { slot = subst (λ x. s < x.shape.slots) (sym w.same) r.unsealed.slot; unsealed = open_still };
      read = λ x y x< xn y<. data_same x y y< ∙ r.read x y x< xn y<;
    }

  -- nothing is written
  written_none : (D : ℕ → ℕ → Type 0) (m : Meaning) → ((n p : ℕ) → D n p → ⊥) → is_open (m.slot s) ≡ true → Written l whole D s m m
  written_none D m no_d o = record { same = unchanged m s o; others = λ n p h. refl; checks = λ n p d. absurd (no_d n p d) }

  -- one check is
  pub written_one : (m m' : Meaning) (x y : ℕ) → CheckPlace l x y → m' ≡ checked_one l whole m s x y → Written l whole (OneCheck l x y) s m m'
  written_one m m' x y at e = record {
    same = e ∙ ap (λ c. with_slot m s (opened c)) (sym cells);
    others = λ n p h. ap (λ c. c n p) cells ∙ cond-false (eqb n x && eqb p y) (Some here) (cells_of (m.slot s) n p) (other n p h);
    checks = λ n p d. ap (λ c. c n p) cells ∙ cond-true (eqb n x && eqb p y) (Some here) (cells_of (m.slot s) n p) (and_from (eqb n x) (eqb p y) (eq-eqb n x d.1) (eq-eqb p y d.2))
        ∙ ap₂ (λ u v. Some (check_at l whole (cells_of (m.slot s)) u v)) (sym d.1) (sym d.2);
  }
    where
      here : Block
      here = check_at l whole (cells_of (m.slot s)) x y

      cells : cells_of (m'.slot s) ≡ with_cell (cells_of (m.slot s)) x y (Some (check_at l whole (cells_of (m.slot s)) x y))
      cells = ap (λ z. cells_of (z.slot s)) e ∙ ap cells_of (slot_at m s (opened (with_cell (cells_of (m.slot s)) x y (Some (check_at l whole (cells_of (m.slot s)) x y)))))

      other : (n p : ℕ) → (OneCheck l x y n p → ⊥) → (eqb n x && eqb p y) ≡ false
      other n p h = ⊎_elim
          (λ t.
          let z = and_parts (eqb n x) (eqb p y) t in
          let u = eqb-true n x z.0 in
          let v = eqb-true p y z.1 in
          absurd (h (record { node = omega (arith, u, at.node); least = omega (arith, v, at.least); most = omega (arith, v, at.most) }, u, v)))
          (λ f. f) (cases_Bool (eqb n x && eqb p y))

  -- first those of D, then those of E
  written_both : (D E F : ℕ → ℕ → Type 0) (m m' m'' : Meaning) → OnChecks l D → OnChecks l E → Written l whole D s m m' → Written l whole E s m' m''
      → ((n p : ℕ) → F n p → ((D n p) × (E n p → ⊥)) ⊎ (E n p)) → ((n p : ℕ) → D n p → F n p) → ((n p : ℕ) → E n p → F n p) → Written l whole F s m m''
  written_both D E F m m' m'' od oe u v split left right = record {
    same = v.same ∙ ap (λ x. with_slot x s (opened (cells_of (m''.slot s)))) u.same ∙ twice m s (opened (cells_of (m'.slot s))) (opened (cells_of (m''.slot s)));
    others = λ n p h. v.others n p (λ e. h (right n p e)) ∙ u.others n p (λ d. h (left n p d));
    checks = λ n p f. ⊎_elim
        (λ d. v.others n p d.1 ∙ u.checks n p d.0)
        (λ e. v.checks n p e ∙ ap Some (check_same D od m m' u n p (oe n p e).node))
        (split n p f);
  }

  -- the same cells, said otherwise
  pub written_same : (D F : ℕ → ℕ → Type 0) (m m' : Meaning) → Written l whole D s m m' → ((n p : ℕ) → F n p → D n p) → ((n p : ℕ) → D n p → F n p) → Written l whole F s m m'
  written_same D F m m' w to from = record { same = w.same; others = λ n p h. w.others n p (λ d. h (from n p d)); checks = λ n p f. w.checks n p (to n p f) }

  pub on_node : (x y : ℕ) → OnChecks l (NodeTo l x y)
  on_node x y n p d = d.0

  pub on_nodes : (x : ℕ) → OnChecks l (NodesTo l x)
  on_nodes x n p d = d.0

  pub node_none : (x y : ℕ) (m : Meaning) → y ≡ l.k * l.lanes → is_open (m.slot s) ≡ true → Written l whole (NodeTo l x y) s m m
  node_none x y m e o = written_none (NodeTo l x y) m (λ n p d. let z = d.0.least in let u = d.2 in omega arith) o

  -- a call writes a check more of a node, where the level is ready
  pub node_more : (x y : ℕ) (m m' m'' : Meaning) (bytes : List ℕ) → Ready l m s bytes → Written l whole (NodeTo l x y) s m m'
      → (Ready l m' s bytes → Written l whole (OneCheck l x y) s m' m'') → Written l whole (NodeTo l x (y + 1)) s m m''
  node_more x y m m' m'' bytes r w call =
      let on = on_node x y in
      written_both (NodeTo l x y) (OneCheck l x y) (NodeTo l x (y + 1)) m m' m'' on (λ n p d. d.0) w (call (ready_still (NodeTo l x y) on m m' w bytes r))
      (λ n p d. let u = d.2 in ⊎_elim
      (λ lt. inl ((d.0, d.1, lt), λ o. let z = o.2 in omega arith))
      (λ le. inr (d.0, d.1, omega arith))
      (cases_lt p y))
      (λ n p d. let u = d.2 in (d.0, d.1, omega arith))
      (λ n p d. let u = d.2 in (d.0, d.1, omega arith))

  pub nodes_none : (m : Meaning) → is_open (m.slot s) ≡ true → Written l whole (NodesTo l 0) s m m
  nodes_none m o = written_none (NodesTo l 0) m (λ n p d. let u = d.1 in omega arith) o

  -- or those of a node more
  pub nodes_more : (x : ℕ) (m m' m'' : Meaning) (bytes : List ℕ) → Ready l m s bytes → Written l whole (NodesTo l x) s m m'
      → (Ready l m' s bytes → Written l whole (NodeTo l x ((l.k + l.m) * l.lanes)) s m' m'') → Written l whole (NodesTo l (x + 1)) s m m''
  nodes_more x m m' m'' bytes r w call =
      let end = (l.k + l.m) * l.lanes in
      written_both (NodesTo l x) (NodeTo l x end) (NodesTo l (x + 1)) m m' m'' (on_nodes x) (on_node x end) w (call (ready_still (NodesTo l x) (on_nodes x) m m' w bytes r))
      (λ n p d. let u = d.1 in ⊎_elim
      (λ lt. inl ((d.0, lt), λ o. let z = o.1 in omega arith))
      (λ le. inr (d.0, omega arith, d.0.most))
      (cases_lt n x))
      (λ n p d. let u = d.1 in (d.0, omega arith))
      (λ n p d. let u = d.1 in (d.0, omega arith))
