-- A call that a level passes on is the same call of the level. Assumes nothing.
use Rattle.std.proofs.Common.{◌≡◌, ℕ, ◌*◌, ◌<◌, Bool, true, false, cond, not, ◌&&◌, eqb, leb, List, length, Some, None, Option, Result, sym, refl, ap, ◌∙◌, subst, ap₂, arith}
use mathlib.Core.Path.{fun_ext}
use Rattle.std.proofs.lemmas.Bool.{cond_both, and_parts, eqb-true, lt-leb, not-false, false≢true}
use Rattle.refusal.specs.Answer.{refuse, unless, Turns}
use Rattle.refusal.specs.declared.kind.Refusal.{Refusal}
use Rattle.refusal.specs.declared.kind.Refusal.TheVariants.{Node, Place, Slot as BadSlot, Length, SlotNotOpen, SlotNotEmpty}
use Rattle.refusal.proofs.Turning.{refuse_not, refuse_rest}
use Rattle.block.specs.Block.{Block}
use Rattle.code.specs.Word.{Coding}
use Rattle.store.specs.Meaning.{Slot, Meaning, Lawful}
use Rattle.store.specs.Meaning.Slot.{empty, opened, sealed}
use Rattle.store.specs.Calls.{state_of, is_empty, is_open, cells_of, no_cells, with_slot, with_cell, beyond_slots, not_a_block, open_refusal, put_refusal, lose_refusal, LoseAnswer, OpenAnswer, ClearAnswer, PutAnswer}
use Rattle.stripe_map.specs.declared.layout.Layout.{Layout}
use Rattle.stripe_map.proofs.Back.{data_place}
use Rattle.level.specs.Level.{inside, open_cells, level_slot, level, SlotWords, Laid}
use Rattle.level.proofs.Ways.{by_open, by_slots, turns_along}
use Rattle.level.proofs.Words.{Law, is_inside}
use Rattle.level.proofs.Losses.{lost_words, lost_level}

-- a level's slot is in the state of the slot beneath
pub same_state : (l : Layout) (K : Coding) (s : Slot) → state_of (level_slot l K.whole s) ≡ state_of s
same_state l K empty = refl
same_state l K (opened c) = refl
same_state l K (sealed d c) = refl

pub same_open : (l : Layout) (K : Coding) (s : Slot) → is_open (level_slot l K.whole s) ≡ is_open s
same_open l K empty = refl
same_open l K (opened c) = refl
same_open l K (sealed d c) = refl

same_empty : (l : Layout) (K : Coding) (s : Slot) → is_empty (level_slot l K.whole s) ≡ is_empty s
same_empty l K empty = refl
same_empty l K (opened c) = refl
same_empty l K (sealed d c) = refl

module _ (l : Layout) (K : Coding) where
  -- one slot changed
  pub level_with : (b : Meaning) (s : ℕ) (x y : Slot) → level_slot l K.whole x ≡ y → level l K.whole (with_slot b s x) ≡ with_slot (level l K.whole b) s y
  level_with b s x y e = by_slots (level l K.whole b) _ _ (λ t. both (eqb t s) (b.slot t))
    where
      both : (q : Bool) (z : Slot) → level_slot l K.whole (cond q x z) ≡ cond q y (level_slot l K.whole z)
      both true z = e
      both false z = refl

  pub laid_with : (b : Meaning) (s : ℕ) (x : Slot) → Laid l K b → SlotWords l K.Word x → Laid l K (with_slot b s x)
  laid_with b s x a h = record { matches = a.matches; words = λ t. cond_both (eqb t s) x (b.slot t) (SlotWords l K.Word) (λ _. h) (λ _. a.words t) }

  -- a turn of the store beneath, refused by f, which is also the level's refusal, and one of the level
  module _ (b b' B : Meaning) (f : Option Refusal) (r : Result Unit Refusal) (q : Turns f b B r b') where
    turn_level : (f' : Option Refusal) (B' : Meaning) → f ≡ f' → (f ≡ None → level l K.whole B ≡ B') → Turns f' (level l K.whole b) B' r (level l K.whole b')
    turn_level f' B' e h = turns_along (level l K.whole) f f' b B B' r b' e h q

    turn_laid : Laid l K b → Laid l K B → Laid l K b'
    turn_laid a h = subst (Laid l K) (sym q.leaves) (at f)
      where
        at : (f : Option Refusal) → Laid l K (unless f b B)
        at None = h
        at (Some x) = a

  module _ (b b' : Meaning) (L : Lawful b) (a : Laid l K b) (r : Result Unit Refusal) where
    -- lose
    pub lose_means : (x : ℕ) → Law l K → LoseAnswer b x r b' → LoseAnswer (level l K.whole b) x r (level l K.whole b')
    lose_means x D q = turn_level b b' _ (lose_refusal b x) r q (lose_refusal b x) _ refl (λ _. by_slots (level l K.whole b) _ _ (λ s. lost_level l b L a.matches.fits K D x (b.slot s) (L.slots s) (a.words s)))

    pub lose_laid : (x : ℕ) → LoseAnswer b x r b' → Laid l K b'
    lose_laid x q = turn_laid b b' _ (lose_refusal b x) r q a (record {
      matches = a.matches;
      words = λ s. lost_words l b.covers K.Word x (b.slot s) (a.words s);
    })

    -- open
    open_same : (s : ℕ) → open_refusal b s ≡ open_refusal (level l K.whole b) s
    open_same s = ap (λ x. beyond_slots b s (refuse (not x) SlotNotEmpty None)) (sym (same_empty l K (b.slot s)))

    pub open_means : (s : ℕ) → OpenAnswer b s r b' → OpenAnswer (level l K.whole b) s r (level l K.whole b')
    open_means s q = turn_level b b' _ (open_refusal b s) r q _ _ (open_same s)
        (λ _. level_with b s _ _ (ap opened (fun_ext (λ n. fun_ext (λ p. nothing (inside l n p))))))
      where
        nothing : (q : Bool) → cond {A = Option Block} q None None ≡ None
        nothing true = refl
        nothing false = refl

    pub open_laid : (s : ℕ) → OpenAnswer b s r b' → Laid l K b'
    open_laid s q = turn_laid b b' _ (open_refusal b s) r q a (laid_with b s (opened no_cells) a tt)

    -- clear
    pub clear_means : (s : ℕ) → ClearAnswer b s r b' → ClearAnswer (level l K.whole b) s r (level l K.whole b')
    clear_means s q = turn_level b b' _ (beyond_slots b s None) r q _ _ refl (λ _. level_with b s empty empty refl)

    pub clear_laid : (s : ℕ) → ClearAnswer b s r b' → Laid l K b'
    clear_laid s q = turn_laid b b' _ (beyond_slots b s None) r q a (laid_with b s empty a tt)

    -- put
    put_same : (s n p len : ℕ) → p < l.k * l.lanes → put_refusal b s n p len ≡ put_refusal (level l K.whole b) s n p len
    put_same s n p len h =
        let d = data_place l p h in
        ap₂ (λ x y. refuse (leb b.shape.nodes n) Node (refuse x Place (beyond_slots b s (not_a_block len (refuse (not y) SlotNotOpen None)))))
        (lt-leb b.shape.places p (omega (arith, d, a.matches.fits.places)) ∙ sym (lt-leb (l.k * l.lanes) p h)) (sym (same_open l K (b.slot s)))

    put_open : (s n p len : ℕ) → put_refusal b s n p len ≡ None → is_open (b.slot s) ≡ true
    put_open s n p len e =
        let at_place = refuse_rest (leb b.shape.nodes n) Node _ e in
        let at_slot = refuse_rest (leb b.shape.places p) Place _ at_place in
        let at_length = refuse_rest (leb b.shape.slots s) BadSlot _ at_slot in
        let at_open = refuse_rest (not (eqb len 64)) Length _ at_length in
        not-false (is_open (b.slot s)) (refuse_not (not (is_open (b.slot s))) SlotNotOpen None at_open)

    put_cells : (n p : ℕ) (z : Block) (s : Slot) → n < l.nodes → p < l.k * l.lanes → is_open s ≡ true
        → open_cells l (with_cell (cells_of s) n p (Some z)) ≡ with_cell (cells_of (level_slot l K.whole s)) n p (Some z)
    put_cells n p z s h g e = by_open (λ t. open_cells l (with_cell (cells_of t) n p (Some z)) ≡ with_cell (cells_of (level_slot l K.whole t)) n p (Some z))
        (λ c. fun_ext (λ x. fun_ext (λ y. swap (inside l x y) (eqb x n && eqb y p) (c x y) (there x y)))) s e
      where
        swap : (i q : Bool) (o : Option Block) → (q ≡ true → i ≡ true) → cond i (cond q (Some z) o) None ≡ cond q (Some z) (cond i o None)
        swap true q o f = refl
        swap false true o f = absurd (false≢true (f refl))
        swap false false o f = refl

        there : (x y : ℕ) → (eqb x n && eqb y p) ≡ true → inside l x y ≡ true
        there x y e =
            let q = and_parts (eqb x n) (eqb y p) e in
            let u = eqb-true x n q.0 in
            let v = eqb-true y p q.1 in
            is_inside l x y (omega arith) (omega arith)

    pub put_means : (s n p : ℕ) (z : List ℕ) → n < l.nodes → p < l.k * l.lanes → PutAnswer b s n p z r b' → PutAnswer (level l K.whole b) s n p z r (level l K.whole b')
    put_means s n p z h g q = turn_level b b' _ (put_refusal b s n p (length z)) r q _ _ (put_same s n p (length z) g)
        (λ e. level_with b s _ _ (ap opened (put_cells n p z (b.slot s) h g (put_open s n p (length z) e))))

    pub put_laid : (s n p : ℕ) (z : List ℕ) → PutAnswer b s n p z r b' → Laid l K b'
    put_laid s n p z q = turn_laid b b' _ (put_refusal b s n p (length z)) r q a (laid_with b s (opened (with_cell (cells_of (b.slot s)) n p (Some z))) a tt)
