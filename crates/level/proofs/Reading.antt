-- Reading the blocks of a stripe, and what its word gives. Assumes nothing.
use Rattle.std.proofs.Common.{◌≡◌, ℕ, ◌+◌, ◌-◌, ◌*◌, ◌<◌, ◌≤◌, Bool, true, false, cond, not, eqb, ltb, leb, List, length, take, drop, set, is_some, is_ok, Some, None, Ok, Option, Result, unwrap_or, sym, refl, ap, ◌∙◌, subst, ap₂, ⊎_elim, arith, get_or-set_other, get_or-set_same, below_more}
use mathlib.Core.Path.{fun_ext}
use borrow.Rule.Slice.PartMut.{put_mid}
use Rattle.std.specs.Int.{from_bool}
use Rattle.std.proofs.lemmas.List.{get_or_past}
use Rattle.std.proofs.lemmas.List.Edits.{length-between}
use Rattle.std.proofs.lemmas.Bool.{lt-leb, le-ltb, cond-false, cases_lt}
use Rattle.std.proofs.lemmas.Bool.Decides.{nat_tests}
use Rattle.refusal.specs.Answer.{refuse, outcome, unless}
use Rattle.refusal.specs.declared.kind.Refusal.{Refusal}
use Rattle.refusal.specs.declared.kind.Refusal.TheVariants.{Missing, TooFewBlocks, BlockNumber}
use Rattle.block.specs.Block.{Block, Held}
use Rattle.block.specs.Count.{count}
use Rattle.code.specs.Word.{Coding, count_held, lowest}
use Rattle.code.specs.Calls.{marks_held, marked, block_at, rebuild_refusal, Rebuilds}
use Rattle.code.proofs.Refusals.{past_lengths}
use Rattle.code.proofs.Blocks.{counts_marked}
use Rattle.code.proofs.Parts.{block_here, block_other}
use Rattle.store.specs.Meaning.{Slot, Meaning}
use Rattle.store.specs.Meaning.Slot.{empty, opened, sealed}
use Rattle.store.specs.Calls.{cells_of, cell_refusal, GetAnswer}
use Rattle.store.proofs.Accepted.{within_shape}
use Rattle.stripe_map.specs.declared.layout.Layout.{Layout}
use Rattle.stripe_map.specs.declared.layout.Stripe.{Stripe}
use Rattle.stripe_map.specs.declared.layout.Member.{Member}
use Rattle.stripe_map.specs.declared.layout.Address.{Address}
use Rattle.stripe_map.specs.Map.{stripe_of, block_of, Among, locate_refusal, address_of, member_of}
use Rattle.stripe_map.proofs.Back.{data_place, block_below, node_within, place_within}
use Rattle.stripe_map.proofs.Found.{located}
use Rattle.level.specs.Level.{Fits, held_of, restored}
use Rattle.level.specs.Stripes.{Gathered, RestoreAnswer, from_stripe, named}
use Rattle.level.proofs.Words.{fitted, fitted_is, held_is}

-- what the answer of a get within the shape tells of the cell
pub cell_told : (m : Meaning) (s n p : ℕ) → s < m.shape.slots → n < m.shape.nodes → p < m.shape.places
    → (old new : List ℕ) (r : Result Unit Refusal) → length old ≡ 64 → GetAnswer m s n p old r new
    → cond (is_ok r) (Some new) None ≡ cells_of (m.slot s) n p
cell_told m s n p s< n< p< old new r long q =
    let only = within_shape m s s< n p n< p< (length old) long (cell_refusal (m.slot s) n p) in
    at (m.slot s) (q.answer ∙ ap (λ f. outcome f tt) only) (q.leaves ∙ ap (λ f. unless f old (unwrap_or (cells_of (m.slot s) n p) old)) only)
  where
    found : (o : Option Block) → r ≡ outcome (refuse (not (is_some o)) (Missing n p) None) tt → new ≡ unless (refuse (not (is_some o)) (Missing n p) None) old (unwrap_or o old)
        → cond (is_ok r) (Some new) None ≡ o
    found None a b = ap (λ x. cond (is_ok x) (Some new) None) a
    found (Some z) a b = ap (λ x. cond (is_ok x) (Some new) None) a ∙ ap Some b

    at : (x : Slot) → r ≡ outcome (cell_refusal x n p) tt → new ≡ unless (cell_refusal x n p) old (unwrap_or (cells_of x n p) old)
        → cond (is_ok r) (Some new) None ≡ cells_of x n p
    at empty a b = ap (λ x. cond (is_ok x) (Some new) None) a
    at (opened c) a b = found (c n p) a b
    at (sealed d c) a b = found (c n p) a b

-- and of a block of a stripe, where the get was at its address
pub block_told : (l : Layout) (m : Meaning) (s : ℕ) (x : Stripe) (i : ℕ) (a : Address) (at : Result Address Refusal) → Fits l m.shape → s < m.shape.slots → Among l x → i < l.k + l.m
    → at ≡ outcome (locate_refusal l x i) (address_of l x i) → at ≡ Ok a
    → (old new : List ℕ) (r : Result Unit Refusal) (ok : Bool) → length old ≡ 64 → GetAnswer m s a.node a.place old r new → ok ≡ is_ok r
    → cond ok (Some new) None ≡ held_of l (cells_of (m.slot s)) x i
block_told l m s x i a at F s< among i< e o old new r ok long q is =
    let found = located l x i a at e o in
    let node = node_within l x i among in
    let place = place_within l x i (l.k + l.m) among i< in
    ap (λ b. cond b (Some new) None) is
    ∙ cell_told m s a.node a.place s< (omega (arith, node, F.nodes, ap (λ z. z.node) found)) (omega (arith, place, F.places, ap (λ z. z.place) found)) old new r long q
    ∙ ap (λ z. cells_of (m.slot s) z.node z.place) found ∙ sym (held_is l (cells_of (m.slot s)) x i i<)

-- one block more of a stripe is read, and marked
pub gather_more : (l : Layout) (m : Meaning) (s : ℕ) (x : Stripe) (c : ℕ) (held : Bool) (mark : ℕ) (marks blocks new : List ℕ) → c < length marks → length blocks ≡ length marks * 64
    → mark ≡ from_bool held → length new ≡ length (take (c * 64 + 64 - c * 64) (drop (c * 64) blocks)) → cond held (Some new) None ≡ held_of l (cells_of (m.slot s)) x c
    → Gathered l m s x c marks blocks → Gathered l m s x (c + 1) (set marks c mark) (put_mid (c * 64) (c * 64 + 64 - c * 64) blocks new)
gather_more l m s x c held mark marks blocks new lt long is part told before =
    let w = c * 64 + 64 - c * 64 in
    let wide : w ≡ 64 = omega arith in
    let room : c * 64 ≤ length blocks = omega arith in
    let size : length new ≡ 64 = part ∙ length-between blocks (c * 64) (c * 64 + 64) (omega arith) ∙ wide in
    let one : ℕ → List ℕ → Option Block = λ u v. cond (not (eqb u 0)) (Some v) None in
    below_more (λ i. marked (set marks c mark) (put_mid (c * 64) w blocks new) i ≡ held_of l (cells_of (m.slot s)) x i) c
    (λ i below. ap₂ one (get_or-set_other marks c i mark 0 (λ e. omega arith)) (block_other c w blocks new room size wide i (λ e. omega arith)) ∙ before i below)
    (ap₂ one (get_or-set_same marks c mark 0 lt ∙ is) (block_here c w blocks new room size) ∙ ap (λ b. cond b (Some new) None) (mark_of held) ∙ told)
  where
    mark_of : (b : Bool) → not (eqb (from_bool b) 0) ≡ b
    mark_of true = refl
    mark_of false = refl

-- a whole stripe read is what is held of it
all_gathered : (l : Layout) (m : Meaning) (s : ℕ) (x : Stripe) (marks bytes : List ℕ) → length marks ≡ l.k + l.m
    → Gathered l m s x (l.k + l.m) marks bytes → marked marks bytes ≡ held_of l (cells_of (m.slot s)) x
all_gathered l m s x marks bytes e g = fun_ext (λ i. ⊎_elim
    (λ lt. g i lt)
    (λ le. ap (λ u. cond (not (eqb u 0)) (Some (block_at bytes i)) None) (get_or_past marks i 0 (omega arith)) ∙ sym (cond-false (ltb i (l.k + l.m)) _ None (le-ltb i (l.k + l.m) le)))
    (cases_lt i (l.k + l.m)))

-- fewer than k, as the code and as the level test it
too_few : (n k : ℕ) → ltb n k ≡ not (leb k n)
too_few n k = grind (arith, nat_tests)

module _ (l : Layout) (K : Coding) (m : Meaning) (s : ℕ) (x : Stripe) (marks bytes : List ℕ) (i n p : ℕ) (old new : List ℕ) (r : Result Unit Refusal)
    (lm : length marks ≡ l.k + l.m) (lb : length bytes ≡ (l.k + l.m) * 64) (lo : length old ≡ 64) (hi : i < l.k + l.m)
    (g : Gathered l m s x (l.k + l.m) marks bytes) (q : Rebuilds (fitted l K) i marks bytes old r new) where
  abbrev h : Held
  h = held_of l (cells_of (m.slot s)) x

  abbrev t : Bool
  t = leb l.k (count_held h (l.k + l.m))

  same : marked marks bytes ≡ h
  same = all_gathered l m s x marks bytes lm g

  refusal_is : rebuild_refusal (fitted l K) i marks (length bytes) (length old) ≡ refuse (not t) TooFewBlocks None
  refusal_is =
      let counted : count (marks_held marks) (length marks) ≡ count_held h (l.k + l.m)
      = ap (count (marks_held marks)) lm ∙ sym (counts_marked l.k marks bytes (l.k + l.m)) ∙ ap (λ y. count_held y (l.k + l.m)) same in
      past_lengths (fitted l K) i marks (length bytes) (length old) lm lb lo
      ∙ ap₂ (λ a b. refuse a TooFewBlocks (refuse b BlockNumber None)) (ap (λ y. ltb y l.k) counted ∙ too_few (count_held h (l.k + l.m)) l.k) (lt-leb (l.k + l.m) i hi)

  -- the rebuild of a stripe that was read gives the level's block
  restores : RestoreAnswer (restored l K.whole h i) n p old (named n p r) new
  restores = at t (K.whole (lowest l.k h) i) (q.answer ∙ ap (λ f. outcome f tt) refusal_is)
      (q.leaves ∙ ap₂ (λ f y. unless f old (K.whole (lowest l.k y) i)) refusal_is same)
    where
      at : (t : Bool) (w : Block) → r ≡ outcome (refuse (not t) TooFewBlocks None) tt → new ≡ unless (refuse (not t) TooFewBlocks None) old w
          → RestoreAnswer (cond t (Some w) None) n p old (named n p r) new
      at true w e f = record { answer = ap (named n p) e; leaves = f }
      at false w e f = record { answer = ap (named n p) e; leaves = f }

-- a cell that the code rebuilt from its stripe, the refusal named for the cell
pub cell_restored : (l : Layout) (K : Coding) (m : Meaning) (s n p : ℕ) (x : Member) → l.k ≡ K.k → l.m ≡ K.m → p < l.k * l.lanes → x ≡ member_of l n p
    → (marks bytes old new : List ℕ) (r r' : Result Unit Refusal) → length marks ≡ l.k + l.m → length bytes ≡ (l.k + l.m) * 64 → length old ≡ 64
    → Gathered l m s x.stripe (l.k + l.m) marks bytes → Rebuilds K x.number marks bytes old r new → r' ≡ named n p r
    → RestoreAnswer (from_stripe l K m s n p) n p old r' new
cell_restored l K m s n p x k w p< is marks bytes old new r r' lm lb lo g q e =
    subst (λ y. RestoreAnswer (from_stripe l K m s n p) n p old y new) (sym e)
    (restores l K m s (stripe_of l n p) marks bytes (block_of l p) n p old new r lm lb lo (block_below l p (l.k + l.m) (data_place l p p<))
    (subst (λ y. Gathered l m s y.stripe (l.k + l.m) marks bytes) is g)
    (subst (λ y. Rebuilds (fitted l K) y.number marks bytes old r new) is (subst (λ y. Rebuilds y x.number marks bytes old r new) (fitted_is l K k w) q)))
