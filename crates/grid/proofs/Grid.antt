-- A sound grid means a lawful store, and what each call makes of a grid is sound and means what the call says.
use Rattle.std.proofs.Common.{◌≡◌, ℕ, ◌<◌, ◌≤◌, Bool, true, false, cond, ◌&&◌, eqb, ltb, is_some, Some, None, Option, refl, rules}
use Rattle.std.proofs.lemmas.Bool.{eqb-true, eqb-false, ltb-true, ltb-false}
use Rattle.store.specs.declared.kinds.Shape.{Shape}
use Rattle.store.specs.declared.kinds.State.TheVariants.{Empty, Open, Sealed}
use Rattle.block.specs.Block.{Block, IsBlock}
use Rattle.store.specs.Meaning.{Cells, Limits, Tidy, Within, Lawful}
use Rattle.store.specs.Calls.{putting, sealing, losing, clearing}
use Rattle.grid.specs.Grid.{Grid, means, Sound, marked, written, dropped, dropped_in, cleared, fresh}

-- two grids are equal if they agree at every slot and cell
pub grid_same : (g k : Grid) → g.shape ≡ k.shape → ((s : ℕ) → g.state s ≡ k.state s) → ((s n p : ℕ) → g.cell s n p ≡ k.cell s n p) → g ≡ k
grid_same g k a b c = λ i. record { shape = a i; state = λ s. b s i; cell = λ s n p. c s n p i }

-- by cases on a test, with what it tells
pub by_eqb : (t s : ℕ) (P : Bool → Type 0) → (t ≡ s → P true) → ((t ≡ s → ⊥) → P false) → P (eqb t s)
by_eqb t s P yes' no' = go (eqb t s) refl where
  go : (b : Bool) → eqb t s ≡ b → P b
  go true e = yes' (eqb-true t s e)
  go false e = no' (eqb-false t s e)

pub by_ltb : (a b : ℕ) (P : Bool → Type 0) → (a < b → P true) → (b ≤ a → P false) → P (ltb a b)
by_ltb a b P yes' no' = go (ltb a b) refl where
  go : (c : Bool) → ltb a b ≡ c → P c
  go true e = yes' (ltb-true a b e)
  go false e = no' (ltb-false a b e)

-- cells of which those where a test holds are set to v
tidy_set : (h : Shape) (c : Cells) (test : ℕ → ℕ → Bool) (v : Option Block) → ((x y : ℕ) → test x y ≡ true → is_some v ≡ true → Within h x y) → ((b : Block) → v ≡ Some b → IsBlock b) → Tidy h c → Tidy h (λ x y. cond (test x y) v (c x y))
tidy_set h c test v w is t = record {
  within = λ x y. one (test x y) (c x y) (λ (o : Option Block). is_some o ≡ true → Within h x y) (w x y) (t.within x y);
  blocks = λ x y b. one (test x y) (c x y) (λ (o : Option Block). o ≡ Some b → IsBlock b) (λ _. is b) (t.blocks x y b);
} where
  one : (b : Bool) (o : Option Block) (P : Option Block → Type 0) → (b ≡ true → P v) → P o → P (cond b v o)
  one true o P f k = f refl
  one false o P f k = k

module _ (g : Grid) (h : Sound g) where
  pub lawful : Lawful (means g)
  lawful = search rules

  -- open
  pub open_sound : (s : ℕ) → s < g.shape.slots → g.state s ≡ Empty → Sound (marked g s Open)
  open_sound s s< e = search rules

  -- put
  module _ (s n p : ℕ) (b : Block) (s< : s < g.shape.slots) (w : Within g.shape n p) (is : IsBlock b) (e : g.state s ≡ Open) where
    pub put_means : means (written g s n p b) ≡ putting (means g) s n p b
    put_means = search rules

    pub put_sound : Sound (written g s n p b)
    put_sound = record { limits = h.limits; tidy = λ t. tidy_set g.shape (g.cell t) (λ x y. eqb t s && (eqb x n && eqb y p)) (Some b) (search rules) (search rules) (h.tidy t); past = h.past; vacant = search rules; whole = search rules }

  -- seal
  module _ (s : ℕ) (s< : s < g.shape.slots) (e : g.state s ≡ Open) (all : (n p : ℕ) → Within g.shape n p → is_some (g.cell s n p) ≡ true) where
    pub seal_means : means (marked g s Sealed) ≡ sealing (means g) s
    seal_means = search rules

    pub seal_sound : Sound (marked g s Sealed)
    seal_sound = search rules

  -- lose
  module _ (n : ℕ) (n< : n < g.shape.nodes) where
    pub lose_means : means (dropped g n) ≡ losing (means g) n
    lose_means = search rules

  -- clear
  module _ (s : ℕ) where
    pub clear_means : means (cleared g s) ≡ clearing (means g) s
    clear_means = search rules

    pub clear_sound : Sound (cleared g s)
    clear_sound = record { limits = h.limits; tidy = λ t. tidy_set g.shape (g.cell t) (λ x y. eqb t s) None (search rules) (search rules) (h.tidy t); past = search rules; vacant = search rules; whole = search rules }

  -- the cells of a node gone in one slot
  module _ (s n : ℕ) where
    pub wipe_sound : Sound (dropped_in g s n)
    wipe_sound = record { limits = h.limits; tidy = λ t. tidy_set g.shape (g.cell t) (λ x y. eqb t s && eqb x n) None (search rules) (search rules) (h.tidy t); past = h.past; vacant = search rules; whole = search rules }

-- new
pub fresh_sound : (k : Shape) → Limits k → Sound (fresh k)
fresh_sound k l = search rules
