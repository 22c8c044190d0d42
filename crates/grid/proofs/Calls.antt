-- What a call answers and makes of a sound grid, once its refusals are past.
use Rattle.std.proofs.Common.{◌≡◌, ℕ, ◌<◌, Bool, true, not, length, is_some, None, Ok, ap, ◌∙◌, rules}
use Rattle.std.proofs.lemmas.Bool.{lt-leb}
use Rattle.refusal.specs.Answer.{refuse}
use Rattle.refusal.specs.declared.kind.Refusal.{Refusal}
use Rattle.refusal.specs.declared.kind.Refusal.TheVariants.{Incomplete}
use Rattle.refusal.proofs.First.{first_none}
use Rattle.refusal.proofs.Turning.{turns_done}
use Rattle.store.specs.declared.kinds.Shape.{Shape}
use Rattle.store.specs.declared.kinds.State.TheVariants.{Open, Sealed}
use Rattle.block.specs.Block.{Block, IsBlock}
use Rattle.store.specs.Meaning.{Cells, Within}
use Rattle.store.specs.Calls.{absent_at, incomplete, PutAnswer, SealAnswer, LoseAnswer, ClearAnswer, put_refusal, seal_refusal, lose_refusal, beyond_slots}
use Rattle.grid.specs.Grid.{Grid, Sound, means, marked, written, dropped, cleared}
use Rattle.grid.proofs.Grid.{put_means, seal_means, lose_means, clear_means}

refused_not : (b : Bool) (x : Refusal) → refuse (not b) x None ≡ None → b ≡ true
refused_not b x e = search rules

-- where no cell is absent, each is there
pub all_there : (h : Shape) (c : Cells) → incomplete h c ≡ None → (n p : ℕ) → Within h n p → is_some (c n p) ≡ true
all_there h c e n p w = refused_not (is_some (c n p)) (Incomplete n p) (first_none (λ q. refuse (not (is_some (c n q))) (Incomplete n q) None) h.places p (first_none (absent_at h c) h.nodes n e w.0) w.1)

module _ (g g' : Grid) (k : Sound g) where
  pub clear_does : (s : ℕ) → s < g.shape.slots → g' ≡ cleared g s → ClearAnswer (means g) s (Ok tt) (means g')
  clear_does s s< e = turns_done (beyond_slots (means g) s None) _ _ _ (rw (lt-leb g.shape.slots s s<)) (ap means e ∙ clear_means g k s)

  pub lose_does : (n : ℕ) → n < g.shape.nodes → g' ≡ dropped g n → LoseAnswer (means g) n (Ok tt) (means g')
  lose_does n n< e = turns_done (lose_refusal (means g) n) _ _ _ (rw (lt-leb g.shape.nodes n n<)) (ap means e ∙ lose_means g k n n<)

  pub put_does : (s n p : ℕ) (b : Block) → s < g.shape.slots → Within g.shape n p → IsBlock b → g.state s ≡ Open → g' ≡ written g s n p b → PutAnswer (means g) s n p b (Ok tt) (means g')
  put_does s n p b s< w is z e = turns_done (put_refusal (means g) s n p (length b)) _ _ _ (rw (lt-leb g.shape.nodes n w.0, lt-leb g.shape.places p w.1, lt-leb g.shape.slots s s<, is.size, z)) (ap means e ∙ put_means g k s n p b s< w is z)

  pub seal_does : (s : ℕ) → s < g.shape.slots → g.state s ≡ Open → incomplete g.shape (g.cell s) ≡ None → g' ≡ marked g s Sealed → SealAnswer (means g) s (Ok tt) (means g')
  seal_does s s< z i e = turns_done (seal_refusal (means g) s) _ _ _ (rw (lt-leb g.shape.slots s s<, z) i) (ap means e ∙ seal_means g k s s< z (all_there g.shape (g.cell s) i))
