-- The word of a stripe. Assumes nothing.
use Rattle.std.proofs.Common.{◌≡◌, ℕ, ◌+◌, ◌*◌, ◌<◌, ◌≤◌, true, ltb, leb, Some, None, sym, ◌∙◌, subst, ap₂, ⊎_elim}
use Rattle.std.proofs.lemmas.Bool.{ltb-true, leb-true, and_parts, and_from, lt-ltb, cond-true}
use Rattle.block.specs.Block.{Block, Blocks, Held}
use Rattle.code.specs.Word.{Coding, Completes, AnyKBlocksBelongToExactlyOneWord, AllBlocks, Has, count_held, lowest}
use Rattle.code.proofs.Law.{Agree}
use Rattle.code.proofs.Agreement.{agree}
use Rattle.code.proofs.Lowest.{kept, count_lowest_held, lowest_was}
use Rattle.store.specs.declared.kinds.Shape.{Shape}
use Rattle.store.specs.Meaning.{Cells, Tidy}
use Rattle.stripe_map.specs.declared.layout.Layout.{Layout}
use Rattle.stripe_map.specs.declared.layout.Stripe.{Stripe}
use Rattle.stripe_map.specs.Map.{node_of, place_of, stripe_of, block_of}
use Rattle.stripe_map.proofs.Back.{data_place, block_below, node_back, place_back}
use Rattle.level.specs.Level.{held_of, inside, sealed_cells, StripeWord, Matches}
use Rattle.level.proofs.Ways.{cell_cases}

-- the code at the layout's sizes
abbrev pub fitted : Layout → Coding → Coding
fitted l K = record { k = l.k; m = l.m; Word = K.Word; whole = K.whole }

pub fitted_is : (l : Layout) (K : Coding) → l.k ≡ K.k → l.m ≡ K.m → K ≡ fitted l K
fitted_is l K k m = λ i. record { k = sym k i; m = sym m i; Word = K.Word; whole = K.whole }

-- and its law
pub record Law (l : Layout) (K : Coding) : Type 0 where
  pub completes : Completes (fitted l K)
  pub agrees : Agree (fitted l K)

pub at_layout : (l : Layout) (K : Coding) (h : Shape) → Matches l K h → Completes K → AnyKBlocksBelongToExactlyOneWord K → Law l K
at_layout l K h a completes any =
    let e = fitted_is l K a.data_blocks a.check_blocks in
    record { completes = subst Completes e completes; agrees = subst Agree e (agree K completes any) }

pub inside_is : (l : Layout) (n p : ℕ) → inside l n p ≡ true → (n < l.nodes) × (p < l.k * l.lanes)
inside_is l n p e =
    let b = and_parts (ltb n l.nodes) (ltb p (l.k * l.lanes)) e in
    (ltb-true n l.nodes b.0, ltb-true p (l.k * l.lanes) b.1)

pub is_inside : (l : Layout) (n p : ℕ) → n < l.nodes → p < l.k * l.lanes → inside l n p ≡ true
is_inside l n p h g = and_from (ltb n l.nodes) (ltb p (l.k * l.lanes)) (lt-ltb n l.nodes h) (lt-ltb p (l.k * l.lanes) g)

-- a block of a stripe is held if it is there
pub held_is : (l : Layout) (c : Cells) (s : Stripe) (i : ℕ) → i < l.k + l.m → held_of l c s i ≡ c (node_of l s i) (place_of l s i)
held_is l c s i h = cond-true (ltb i (l.k + l.m)) (c (node_of l s i) (place_of l s i)) None (lt-ltb i (l.k + l.m) h)

-- a cell is the block of its stripe
held_at : (l : Layout) (c : Cells) (n p : ℕ) → p < (l.k + l.m) * l.lanes → held_of l c (stripe_of l n p) (block_of l p) ≡ c n p
held_at l c n p h =
    held_is l c (stripe_of l n p) (block_of l p) (block_below l p (l.k + l.m) h) ∙ ap₂ c (node_back l n p h) (place_back l n p)

module _ (l : Layout) (K : Coding) (D : Law l K) where
  abbrev w : ℕ
  w = l.k + l.m

  lowest_blocks : (h : Held) → AllBlocks w h → AllBlocks w (lowest l.k h)
  lowest_blocks h a i b lt e = a i b lt (lowest_was l.k h i b e)

  pub whole_word : (h : Held) → AllBlocks w h → l.k ≤ count_held h w → K.Word (K.whole (lowest l.k h))
  whole_word h a e = D.completes.word (lowest l.k h) (lowest_blocks h a) (count_lowest_held l.k h w e)

  -- a word that has all held blocks is the one of the lowest k
  pub whole_is : (h : Held) (v : Blocks) (i : ℕ) → AllBlocks w h → l.k ≤ count_held h w → K.Word v → Has w v h → i < w
      → K.whole (lowest l.k h) i ≡ v i
  whole_is h v i a e is has lt =
      let k = count_lowest_held l.k h w e in
      D.agrees (lowest l.k h) (K.whole (lowest l.k h)) v k (whole_word h a e) is (D.completes.has (lowest l.k h) (lowest_blocks h a) k)
      (λ j b jl q. has j b jl (lowest_was l.k h j b q)) i lt

  module _ (s : Shape) (c : Cells) (t : Tidy s c) where
    pub held_blocks : (x : Stripe) → AllBlocks w (held_of l c x)
    held_blocks x i b lt e = t.blocks _ _ b (kept (ltb i w) (c (node_of l x i) (place_of l x i)) b e).1

    -- a block of the store beneath is that of its stripe's word
    pub below_word : (n p : ℕ) (b : Block) (v : StripeWord l K.Word c (stripe_of l n p)) → p < w * l.lanes → c n p ≡ Some b
        → v.blocks (block_of l p) ≡ b
    below_word n p b v h e = v.has (block_of l p) b (block_below l p w h) (held_at l c n p h ∙ e)

    -- and so is a block of the level
    pub cell_word : (n p : ℕ) (b : Block) (v : StripeWord l K.Word c (stripe_of l n p)) → sealed_cells l K.whole c n p ≡ Some b
        → v.blocks (block_of l p) ≡ b
    cell_word n p b v e =
        let h = held_of l c (stripe_of l n p) in
        let ways = cell_cases (inside l n p) (leb l.k (count_held h w)) (c n p) (K.whole (lowest l.k h) (block_of l p)) b e in
        let lt : p < w * l.lanes = data_place l p (inside_is l n p ways.0).1 in
        ⊎_elim (below_word n p b v lt)
        (λ r. sym (whole_is h v.blocks (block_of l p) (held_blocks (stripe_of l n p)) (leb-true l.k (count_held h w) r.0) v.word v.has (block_below l p w lt)) ∙ r.1)
        ways.1
