-- What is left to refuse once the numbers are within the shape.
use Rattle.std.proofs.Common.{◌≡◌, ℕ, ◌<◌, true, Option, ◌∙◌}
use Rattle.std.proofs.lemmas.Bool.{lt-leb}
use Rattle.refusal.specs.declared.kind.Refusal.{Refusal}
use Rattle.store.specs.Meaning.{Meaning}
use Rattle.store.specs.Calls.{is_open, cells_of, incomplete, beyond_slots, beyond_shape, not_a_block, seal_refusal}

module _ (m : Meaning) (s : ℕ) (s< : s < m.shape.slots) where
  within_slots : (rest : Option Refusal) → beyond_slots m s rest ≡ rest
  within_slots rest = rw (lt-leb m.shape.slots s s<)

  -- sealing an open slot is refused for its first absent cell alone
  pub seal_refused : is_open (m.slot s) ≡ true → seal_refusal m s ≡ incomplete m.shape (cells_of (m.slot s))
  seal_refused h = within_slots _ ∙ rw h

  module _ (n p : ℕ) (n< : n < m.shape.nodes) (p< : p < m.shape.places) (len : ℕ) (l : len ≡ 64) where
    pub within_shape : (rest : Option Refusal) → beyond_shape m s n p (not_a_block len rest) ≡ rest
    within_shape rest = rw (lt-leb m.shape.nodes n n<, lt-leb m.shape.places p p<, lt-leb m.shape.slots s s<, l)
