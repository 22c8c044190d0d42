-- Sealing a slot whose checks are written. Assumes nothing.
use Rattle.std.proofs.Common.{◌≡◌, ℕ, ◌+◌, ◌*◌, ◌<◌, ◌≤◌, Bool, true, false, cond, not, ltb, List, is_some, Some, None, Ok, Err, Option, Result, sym, refl, ap, ◌∙◌, subst, ap₂, ⊎_elim, arith}
use mathlib.Core.Path.{fun_ext}
use Rattle.std.proofs.lemmas.Bool.{ltb-true, false_from_ne_true, leb-false, lt-ltb, cond-true, cases_lt, false≢true}
use Rattle.std.proofs.lemmas.Option.{same_Some}
use Rattle.std.specs.Option.{option_or}
use Rattle.refusal.specs.Answer.{refuse, outcome}
use Rattle.refusal.specs.declared.kind.Refusal.{Refusal}
use Rattle.refusal.specs.declared.kind.Refusal.TheVariants.{Slot as BadSlot, Incomplete}
use Rattle.refusal.proofs.First.{first_all, first_same}
use Rattle.refusal.proofs.Turning.{outcome_done, outcome_value, refuse_not, turned, turns_refused, turns_done}
use Rattle.block.specs.Block.{Block, IsBlock}
use Rattle.block.proofs.Counts.{count_same, count_below}
use Rattle.code.specs.Word.{Coding, count_held, AllBlocks}
use Rattle.code.proofs.Lowest.{kept}
use Rattle.store.specs.declared.kinds.Shape.{Shape}
use Rattle.store.specs.declared.kinds.State.{State}
use Rattle.store.specs.declared.kinds.State.TheVariants.{Open}
use Rattle.store.specs.Meaning.{Cells, Slot, Meaning, Within, LawfulSlot, Lawful}
use Rattle.store.specs.Meaning.Slot.{empty, opened, sealed}
use Rattle.store.specs.Calls.{absent_at, incomplete, is_open, state_of, cells_of, with_slot, seal_refusal, sealing, no_nodes, StateAnswer, SealAnswer}
use Rattle.store.proofs.Accepted.{seal_refused}
use Rattle.stripe_map.specs.declared.layout.Layout.{Layout}
use Rattle.stripe_map.specs.declared.layout.Stripe.{Stripe}
use Rattle.stripe_map.specs.Map.{node_of, place_of, stripe_of, block_of, Among}
use Rattle.stripe_map.proofs.Back.{block_on, stripe_on, node_within, place_within, check_above}
use Rattle.level.specs.Level.{Fits, inside, held_of, restored, level_shape, sealed_cells, level_slot, level, StripeWord, Laid}
use Rattle.level.specs.Checks.{Unsealed, Ready, Complete, data_of, check_at, Written, NodesTo}
use Rattle.level.proofs.Ways.{by_open, none_is, some_under}
use Rattle.level.proofs.Words.{Law, is_inside, inside_is}
use Rattle.level.proofs.Passing.{level_with, laid_with, same_open}
use Rattle.level.proofs.Sealing.{twice, data_same, open_still, on_nodes}

-- every cell is there
complete_none : (h : Shape) (c : Cells) → ((n p : ℕ) → Within h n p → is_some (c n p) ≡ true) → incomplete h c ≡ None
complete_none h c f =
    first_all (absent_at h c) h.nodes (λ n n<. first_all (λ p. refuse (not (is_some (c n p))) (Incomplete n p) None) h.places (λ p p<. ap (λ t. refuse (not t) (Incomplete n p) None) (f n p (n<, p<))))

-- what the state of a slot tells
pub state_open : (m : Meaning) (s : ℕ) (t : State) → StateAnswer m s (Ok t) → t ≡ Open → Unsealed m s
state_open m s t a e = record {
  slot = leb-false m.shape.slots s (refuse_not _ BadSlot None (outcome_done _ _ t (sym a)));
  unsealed = kind (m.slot s) (outcome_value _ _ t (sym a) ∙ e);
}
  where
    kind : (z : Slot) → state_of z ≡ Open → is_open z ≡ true
    kind empty q = cc
    kind (opened c) q = refl
    kind (sealed d c) q = cc

module _ (l : Layout) (K : Coding) (b : Meaning) (L : Lawful b) (F : Fits l b.shape) (s : ℕ) (u : Unsealed b s) where
  -- an open slot of the level has the cells beneath
  level_cells : (n p : ℕ) → p < l.k * l.lanes → cells_of (level_slot l K.whole (b.slot s)) n p ≡ cells_of (b.slot s) n p
  level_cells n p g =
      by_open (λ z. LawfulSlot b.shape b.covers z → cells_of (level_slot l K.whole z) n p ≡ cells_of z n p)
      (λ c t. ⊎_elim
      (λ h. cond-true (inside l n p) (c n p) None (is_inside l n p h g))
      (λ h. nothing (inside l n p) (c n p) (none_is (c n p) (false_from_ne_true _ (λ y. let z = (t.within n p y).0 in omega (arith, z, F.nodes)))))
      (cases_lt n l.nodes))
      (b.slot s) u.unsealed (L.slots s)
    where
      nothing : (q : Bool) (x : Option Block) → x ≡ None → cond q x None ≡ x
      nothing true x e = refl
      nothing false x e = sym e

  level_open : is_open (level_slot l K.whole (b.slot s)) ≡ true
  level_open = same_open l K (b.slot s) ∙ u.unsealed

  -- so the level is refused for the first of its own cells that is absent
  pub level_seal : seal_refusal (level l K.whole b) s ≡ incomplete (level_shape l b.shape) (cells_of (b.slot s))
  level_seal =
      seal_refused (level l K.whole b) s u.slot level_open
      ∙ first_same _ _ b.shape.nodes (λ n _. first_same _ _ (l.k * l.lanes) (λ p p<. ap (λ o. refuse (not (is_some o)) (Incomplete n p) None) (level_cells n p p<)))

  pub seal_stopped : (f : Refusal) → incomplete (level_shape l b.shape) (cells_of (b.slot s)) ≡ Some f → SealAnswer (level l K.whole b) s (Err f) (level l K.whole b)
  seal_stopped f e = turns_refused (seal_refusal (level l K.whole b) s) f (level l K.whole b) (sealing (level l K.whole b) s) (level_seal ∙ e)

pub record SealedWell (l : Layout) (K : Coding) (b b'' : Meaning) (s : ℕ) (x : Result Unit Refusal) : Type 0 where
  pub accepted : x ≡ Ok tt
  pub means : SealAnswer (level l K.whole b) s x (level l K.whole b'')
  pub laid : Laid l K b''

module _ (l : Layout) (K : Coding) (D : Law l K) (b b' b'' : Meaning) (L : Lawful b) (a : Laid l K b) (s : ℕ) (bytes : List ℕ) (r : Ready l b s bytes)
    (w : Written l K.whole (NodesTo l l.nodes) s b b') (x : Result Unit Refusal) (q : SealAnswer b' s x b'') where
  abbrev c : Cells
  c = cells_of (b.slot s)

  abbrev c' : Cells
  c' = cells_of (b'.slot s)

  abbrev F : Fits l b.shape
  F = a.matches.fits

  complete : Complete l c
  complete n p n< p< = ap is_some (r.read n p n< n< p<)

  same_shape : b'.shape ≡ b.shape
  same_shape = ap (λ y. y.shape) w.same

  data_is : (n p : ℕ) → p < l.k * l.lanes → c' n p ≡ c n p
  data_is n p g = data_same l K.whole s (NodesTo l l.nodes) (on_nodes l K.whole s l.nodes) b b' w n p g

  check_is : (n p : ℕ) → n < l.nodes → l.k * l.lanes ≤ p → p < (l.k + l.m) * l.lanes → c' n p ≡ Some (check_at l K.whole c n p)
  check_is n p h g e = w.checks n p (record { node = h; least = g; most = e }, h)

  all_there : (n p : ℕ) → Within b'.shape n p → is_some (c' n p) ≡ true
  all_there n p i =
      let N : n < l.nodes = let z = i.0 in omega (arith, z, ap (λ y. y.nodes) same_shape, F.nodes) in
      let P : p < (l.k + l.m) * l.lanes = let z = i.1 in omega (arith, z, ap (λ y. y.places) same_shape, F.places) in
      ⊎_elim (λ g. ap is_some (data_is n p g) ∙ complete n p N g) (λ g. ap is_some (check_is n p N g P)) (cases_lt p (l.k * l.lanes))

  -- the store beneath does not refuse, nor does the level
  not_refused : seal_refusal b' s ≡ None
  not_refused =
      seal_refused b' s (subst (λ y. s < y.slots) (sym same_shape) r.unsealed.slot) (open_still l K.whole s (NodesTo l l.nodes) (on_nodes l K.whole s l.nodes) b b' w)
      ∙ complete_none b'.shape c' all_there

  seal_accepted : x ≡ Ok tt
  seal_accepted = q.answer ∙ ap (λ f. outcome f tt) not_refused

  level_accepts : seal_refusal (level l K.whole b) s ≡ None
  level_accepts =
      level_seal l K b L F s r.unsealed
      ∙ complete_none (level_shape l b.shape) c (λ n p i. complete n p (let z = i.0 in omega (arith, z, F.nodes)) i.1)

  after_is : b'' ≡ with_slot b s (sealed no_nodes c')
  after_is = turned _ _ _ _ _ q not_refused ∙ ap (λ y. with_slot y s (sealed no_nodes c')) w.same ∙ twice b s (opened c') (sealed no_nodes c')

  -- the level's cells are those that it had open
  sealed_same : (n p : ℕ) → sealed_cells l K.whole c' n p ≡ cells_of (level_slot l K.whole (b.slot s)) n p
  sealed_same n p =
      by_open (λ z. (inside l n p ≡ true → option_or (c' n p) word ≡ cells_of z n p) → sealed_cells l K.whole c' n p ≡ cells_of (level_slot l K.whole z) n p)
      (λ y. under (inside l n p) _ _) (b.slot s) r.unsealed.unsealed at
    where
      word : Option Block
      word = restored l K.whole (held_of l c' (stripe_of l n p)) (block_of l p)

      some_first : (u v : Option Block) → is_some u ≡ true → option_or u v ≡ u
      some_first None v e = absurd (false≢true e)
      some_first (Some y) v e = refl

      at : inside l n p ≡ true → option_or (c' n p) word ≡ c n p
      at i =
          let z = inside_is l n p i in
          some_first (c' n p) word (ap is_some (data_is n p z.1) ∙ complete n p z.0 z.1) ∙ data_is n p z.1

      under : (t : Bool) (u v : Option Block) → (t ≡ true → u ≡ v) → cond t u None ≡ cond t v None
      under true u v f = f refl
      under false u v f = refl

  seal_means : SealAnswer (level l K.whole b) s x (level l K.whole b'')
  seal_means = subst (λ y. SealAnswer (level l K.whole b) s y (level l K.whole b'')) (sym seal_accepted)
      (turns_done _ _ _ _ level_accepts
      (ap (level l K.whole) after_is
      ∙ level_with l K b s (sealed no_nodes c') (sealed no_nodes (cells_of (level_slot l K.whole (b.slot s)))) (ap (sealed no_nodes) (fun_ext (λ n. fun_ext (λ p. sealed_same n p))))))

  -- each stripe's blocks are the word of its data
  stripe_word : (st : Stripe) → Among l st → StripeWord l K.Word c' st
  stripe_word st A =
      let h = data_of l c st in
      let at : (i : ℕ) → Option Block = λ i. c (node_of l st i) (place_of l st i) in
      let there : (i : ℕ) → is_some (h i) ≡ ltb i l.k
      = λ i. some_if_data i (at i) (λ lt. complete (node_of l st i) (place_of l st i) (node_within l st i A) (place_within l st i l.k A lt)) in
      let full : count_held h (l.k + l.m) ≡ l.k = count_same _ _ (l.k + l.m) (λ i _. there i) ∙ count_below l.k (l.k + l.m) (omega arith) in
      let all : AllBlocks (l.k + l.m) h = λ i z lt e. blocks_of (node_of l st i) (place_of l st i) z (kept (ltb i l.k) (at i) z e).1 in
      record {
        blocks = K.whole h;
        word = D.completes.word h all full;
        has = λ i z lt e.
            let e' : c' (node_of l st i) (place_of l st i) ≡ Some z = (kept (ltb i (l.k + l.m)) (c' (node_of l st i) (place_of l st i)) z e).1 in
            ⊎_elim
            (λ g. D.completes.has h all full i z lt (cond-true (ltb i l.k) (at i) None (lt-ltb i l.k g) ∙ sym (data_is (node_of l st i) (place_of l st i) (place_within l st i l.k A g)) ∙ e'))
            (λ g. same_Some _ _ (ap₂ (λ u v. Some (K.whole (data_of l c u) v)) (sym (stripe_on l st i A lt)) (sym (block_on l st i A.lane))
            ∙ sym (check_is (node_of l st i) (place_of l st i) (node_within l st i A) (check_above l st i g) (place_within l st i (l.k + l.m) A lt)) ∙ e'))
            (cases_lt i l.k);
      }
    where
      some_if_data : (i : ℕ) (o : Option Block) → (i < l.k → is_some o ≡ true) → is_some (cond (ltb i l.k) o None) ≡ ltb i l.k
      some_if_data i o f = some_under (ltb i l.k) o (λ e. f (ltb-true i l.k e))

      blocks_of : (n p : ℕ) (z : Block) → c n p ≡ Some z → IsBlock z
      blocks_of n p z e = by_open (λ y. LawfulSlot b.shape b.covers y → cells_of y n p ≡ Some z → IsBlock z) (λ d t. t.blocks n p z) (b.slot s) r.unsealed.unsealed (L.slots s) e

  seal_laid : Laid l K b''
  seal_laid = subst (Laid l K) (sym after_is) (laid_with l K b s (sealed no_nodes c') a stripe_word)

  -- what comes of the seal beneath, once the checks are written
  pub sealed_well : SealedWell l K b b'' s x
  sealed_well = record { accepted = seal_accepted; means = seal_means; laid = seal_laid }
