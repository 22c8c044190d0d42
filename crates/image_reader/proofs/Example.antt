-- The bytes of the worked image. Assumes nothing.
use Rattle.std.proofs.Common.{◌≡◌, ℕ, ◌+◌, List, [], ◌++◌, take, drop, replicate, Some, None, sym, refl, ap, ◌∙◌, arith}
use Rattle.std.proofs.lemmas.List.{take-append-drop, drop-drop, drop_all}
use Rattle.store.specs.declared.kinds.State.{State}
use Rattle.store.specs.declared.kinds.State.TheVariants.{Empty, Open, Sealed}
use Rattle.store.specs.Meaning.{Meaning, Nodes, Cells}
use Rattle.store.specs.Calls.{state_of, cells_of}
use Rattle.grid.specs.Grid.{slot_as, means}
use Rattle.image_format.specs.Image.{head_at, record_at, head_of, record_of, row_of, marks_of, grid_at, SoundImage}
use Rattle.image_reader.specs.Example.{small, hurt, expected, ImageExample}

-- a part of a list, and what follows it
cut : (a b : ℕ) (xs : List ℕ) → drop a xs ≡ take b (drop a xs) ++ drop (a + b) xs
cut a b xs = sym (take-append-drop b (drop a xs)) ∙ ap (λ ys. take b (drop a xs) ++ ys) (drop-drop b a xs)

state_of_as : (z : State) (d : Nodes) (c : Cells) → state_of (slot_as z d c) ≡ z
state_of_as Empty d c = refl
state_of_as Open d c = refl
state_of_as Sealed d c = refl

used : (z : State) (d : Nodes) (c : Cells) → z ≡ Sealed → c ≡ cells_of (slot_as z d c)
used Empty d c e = cc
used Open d c e = refl
used Sealed d c e = refl

module _ (img : List ℕ) (k : SoundImage small img) (is : means (grid_at small img) ≡ hurt) where
  state_0 : marks_of small img 0 ≡ Sealed
  state_0 = sym (state_of_as (marks_of small img 0) _ _) ∙ ap (λ (m : Meaning). state_of (m.slot 0)) is

  state_1 : marks_of small img 1 ≡ Empty
  state_1 = sym (state_of_as (marks_of small img 1) _ _) ∙ ap (λ (m : Meaning). state_of (m.slot 1)) is

  cell_0 : row_of small img 0 ≡ Some (replicate 64 7)
  cell_0 = ap (λ (c : Cells). c 0 0) (used (marks_of small img 0) _ ((grid_at small img).cell 0) state_0) ∙ ap (λ (m : Meaning). cells_of (m.slot 0) 0 0) is

  cell_1 : row_of small img 1 ≡ None
  cell_1 = ap (λ (c : Cells). c 1 0) (used (marks_of small img 0) _ ((grid_at small img).cell 0) state_0) ∙ ap (λ (m : Meaning). cells_of (m.slot 0) 1 0) is

  cell_2 : row_of small img 2 ≡ None
  cell_2 = k.grid.vacant 1 0 0 state_1

  cell_3 : row_of small img 3 ≡ None
  cell_3 = k.grid.vacant 1 1 0 state_1

  parts : img ≡ head_at img 0 ++ (head_at img 1 ++ (record_at small img 0 ++ (record_at small img 1 ++ (record_at small img 2 ++ (record_at small img 3 ++ [])))))
  parts =
      cut 0 8 img ∙ ap (λ r. head_at img 0 ++ r) (cut 8 8 img ∙ ap (λ r. head_at img 1 ++ r) (cut 16 72 img ∙ ap (λ r. record_at small img 0 ++ r)
      (cut 88 72 img ∙ ap (λ r. record_at small img 1 ++ r) (cut 160 72 img ∙ ap (λ r. record_at small img 2 ++ r)
      (cut 232 72 img ∙ ap (λ r. record_at small img 3 ++ r) (drop_all 304 img (omega (arith, k.length))))))))

  written : img ≡ expected
  written =
      parts ∙ (λ i. head_0 i ++ (head_1 i ++ (record_0 i ++ (record_1 i ++ (record_2 i ++ (record_3 i ++ []))))))
    where
      head_0 : head_at img 0 ≡ head_of Sealed
      head_0 = k.heads 0 (omega arith) ∙ ap head_of state_0

      head_1 : head_at img 1 ≡ head_of Empty
      head_1 = k.heads 1 (omega arith) ∙ ap head_of state_1

      record_0 : record_at small img 0 ≡ record_of small 0 (Some (replicate 64 7))
      record_0 = k.records 0 (omega arith) ∙ ap (record_of small 0) cell_0

      record_1 : record_at small img 1 ≡ record_of small 1 None
      record_1 = k.records 1 (omega arith) ∙ ap (record_of small 1) cell_1

      record_2 : record_at small img 2 ≡ record_of small 2 None
      record_2 = k.records 2 (omega arith) ∙ ap (record_of small 2) cell_2

      record_3 : record_at small img 3 ≡ record_of small 3 None
      record_3 = k.records 3 (omega arith) ∙ ap (record_of small 3) cell_3

pub image_example : ImageExample
image_example = record { bytes = written; wrong_length = refl }
