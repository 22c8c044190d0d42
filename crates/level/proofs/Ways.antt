-- Cases of a slot and of a level's cell. Assumes nothing.
use Rattle.std.proofs.Common.{◌≡◌, ℕ, Bool, true, false, cond, ◌||◌, ◌⊎◌, is_some, Some, None, Option, Result, sym, refl, ap, ◌∙◌, inl, inr}
use Rattle.std.proofs.lemmas.Bool.{false≢true}
use Rattle.std.proofs.lemmas.Option.{none-some, same_Some}
use Rattle.std.specs.Option.{option_or}
use Rattle.refusal.specs.Answer.{outcome, unless, Turns}
use Rattle.refusal.specs.declared.kind.Refusal.{Refusal}
use Rattle.block.specs.Block.{Block}
use Rattle.store.specs.Meaning.{Nodes, Cells, Slot, Meaning}
use Rattle.store.specs.Meaning.Slot.{empty, opened, sealed}
use Rattle.store.specs.Calls.{is_open}
use Rattle.level.specs.Stripes.{is_sealed}

-- a slot that is open, or sealed
pub by_open : (P : Slot → Type 0) → ((c : Cells) → P (opened c)) → (z : Slot) → is_open z ≡ true → P z
by_open P f empty e = absurd (false≢true e)
by_open P f (opened c) e = f c
by_open P f (sealed d c) e = absurd (false≢true e)

pub by_sealed : (P : Slot → Type 0) → ((d : Nodes) (c : Cells) → P (sealed d c)) → (z : Slot) → is_sealed z ≡ true → P z
by_sealed P f empty e = absurd (false≢true e)
by_sealed P f (opened c) e = absurd (false≢true e)
by_sealed P f (sealed d c) e = f d c

-- the same slots
pub by_slots : (m : Meaning) (f g : ℕ → Slot) → ((t : ℕ) → f t ≡ g t)
    → ◌≡◌ {A = Meaning} (record { shape = m.shape; covers = m.covers; slot = f }) (record { shape = m.shape; covers = m.covers; slot = g })
by_slots m f g h = λ i. record { shape = m.shape; covers = m.covers; slot = λ t. h t i }

-- a turn of one thing is a turn of what h makes of it, with the same refusal, and where there is none the same end
pub turns_along : {S T : Type 0} (h : S → T) (f f' : Option Refusal) (was becomes : S) (becomes' : T) (r : Result Unit Refusal) (is : S)
    → f ≡ f' → (f ≡ None → h becomes ≡ becomes') → Turns f was becomes r is → Turns f' (h was) becomes' r (h is)
turns_along h f f' was becomes becomes' r is e same q = record {
  answer = q.answer ∙ ap (λ o. outcome o tt) e;
  leaves = ap h q.leaves ∙ at f same ∙ ap (λ o. unless o (h was) becomes') e;
}
  where
    at : (f : Option Refusal) → (f ≡ None → h becomes ≡ becomes') → h (unless f was becomes) ≡ unless f (h was) becomes'
    at None same = same refl
    at (Some x) same = refl

pub none_is : (o : Option Block) → is_some o ≡ false → o ≡ None
none_is None e = refl
none_is (Some a) e = absurd (false≢true (sym e))

-- there under a test: the test holds, and it was there
pub some_test : (t : Bool) (o : Option Block) → is_some (cond t o None) ≡ true → (t ≡ true) × (is_some o ≡ true)
some_test true o h = (refl, h)
some_test false o h = absurd (false≢true h)

-- there exactly under a test
pub some_under : (t : Bool) (o : Option Block) → (t ≡ true → is_some o ≡ true) → is_some (cond t o None) ≡ t
some_under true o h = h refl
some_under false o h = refl

-- i: the cell is the level's; e: enough of its stripe is held; o: the block beneath; w: that of the word
pub cell_cases : (i e : Bool) (o : Option Block) (w b : Block) → cond i (option_or o (cond e (Some w) None)) None ≡ Some b
    → (i ≡ true) × ((o ≡ Some b) ⊎ ((e ≡ true) × (w ≡ b)))
cell_cases true e (Some a) w b q = (refl, inl q)
cell_cases true true None w b q = (refl, inr (refl, same_Some w b q))
cell_cases true false None w b q = absurd (none-some b q)
cell_cases false e o w b q = absurd (none-some b q)

pub cell_some : (i e : Bool) (o : Option Block) (w : Block) → i ≡ true → is_some (cond i (option_or o (cond e (Some w) None)) None) ≡ (is_some o || e)
cell_some true e (Some a) w h = refl
cell_some true true None w h = refl
cell_some true false None w h = refl
cell_some false e o w h = absurd (false≢true h)

-- Why losing a node is the same above and beneath. r: the block is covered beneath after the loss; e' and e'': enough of its stripe
-- is, by the blocks and by the rule; e: enough was before; w' and w: the word's block from what is left and from what was.
pub record Facts (r e' e'' e : Bool) (o : Option Block) (w' w : Block) : Type 0 where
  pub rule : e' ≡ e''
  pub there : r ≡ true → is_some o ≡ true
  pub before : e' ≡ true → e ≡ true
  pub same : e' ≡ true → w ≡ w'
  pub agrees : (b : Block) → e' ≡ true → o ≡ Some b → b ≡ w'

pub lost_cell : (i r e' e'' e : Bool) (o : Option Block) (w' w : Block) → (i ≡ true → Facts r e' e'' e o w' w)
    → cond i (option_or (cond r o None) (cond e' (Some w') None)) None ≡ cond (r || e'') (cond i (option_or o (cond e (Some w) None)) None) None
lost_cell false true e' e'' e o w' w f = refl
lost_cell false false e' true e o w' w f = refl
lost_cell false false e' false e o w' w f = refl
lost_cell true true e' e'' e (Some b) w' w f = refl
lost_cell true true e' e'' e None w' w f = absurd (false≢true ((f refl).there refl))
lost_cell true false true true true (Some b) w' w f = ap Some (sym ((f refl).agrees b refl refl))
lost_cell true false true true true None w' w f = ap Some (sym ((f refl).same refl))
lost_cell true false true true false o w' w f = absurd (false≢true ((f refl).before refl))
lost_cell true false true false e o w' w f = absurd (false≢true (sym (f refl).rule))
lost_cell true false false true e o w' w f = absurd (false≢true (f refl).rule)
lost_cell true false false false e o w' w f = refl

pub lost_open : (i q : Bool) (o : Option Block) → cond i (cond q None o) None ≡ cond q None (cond i o None)
lost_open true q o = refl
lost_open false true o = refl
lost_open false false o = refl
