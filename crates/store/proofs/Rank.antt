-- A rank's file, read place by place. Assumes nothing.
use Rattle.std.proofs.Common.{◌≡◌, ℕ, ◌+◌, ◌-◌, ◌*◌, ◌<◌, ◌≤◌, not, List, [], ◌++◌, length, take, drop, is_some, IfErr, Some, None, Ok, Err, Option, Result, unwrap_or, sym, refl, ap, ◌∙◌, subst, add-one, arith, length-drop, length-take}
use borrow.Rule.Slice.PartMut.{put_mid}
use Rattle.std.proofs.lemmas.List.{take_all}
use Rattle.std.proofs.lemmas.Slice.{take-put_mid}
use Rattle.std.proofs.lemmas.Bool.{lt-leb, eq-eqb}
use Rattle.refusal.specs.Answer.{refuse, first}
use Rattle.refusal.specs.declared.kind.Refusal.{Refusal}
use Rattle.refusal.specs.declared.kind.Refusal.TheVariants.{Missing}
use Rattle.refusal.proofs.First.{first_more, first_found}
use Rattle.refusal.proofs.Turning.{turns_done, turns_refused, turned, outcome_refused, outcome_done}
use Rattle.block.specs.Block.{Block}
use Rattle.store.specs.Meaning.{Meaning, Slot}
use Rattle.store.specs.Meaning.Slot.{empty, opened, sealed}
use Rattle.store.specs.Calls.{cells_of, cell_refusal, get_refusal, GetAnswer}
use Rattle.store.specs.Rank.{gathered, rank_refusal, RankAnswer, Reads, Gathered, Ends}
use Rattle.store.proofs.Accepted.{within_shape}

-- where a cell is not refused its block is there
present : (o : Option Block) (f : Refusal) (old : List ℕ) → refuse (not (is_some o)) f None ≡ None → unwrap_or o old ≡ unwrap_or o []
present (Some b) f old e = refl
present None f old e = cc

given_block : (x : Slot) (n p : ℕ) (old : List ℕ) → cell_refusal x n p ≡ None → unwrap_or (cells_of x n p) old ≡ unwrap_or (cells_of x n p) []
given_block empty n p old e = cc
given_block (opened c) n p old e = present (c n p) (Missing n p) old e
given_block (sealed d c) n p old e = present (c n p) (Missing n p) old e

-- a turn of the loop: what the store answered for the part of the buffer that is the place's
module _ (m : Meaning) (s n k : ℕ) (s< : s < m.shape.slots) (n< : n < m.shape.nodes) (k< : k < m.shape.places)
    (out : List ℕ) (room : 64 * m.shape.places ≤ length out) (r : Result Unit Refusal) (new : List ℕ)
    (answer : GetAnswer m s n k (take (64 * k + 64 - 64 * k) (drop (64 * k) out)) r new) where
  abbrev old : List ℕ
  old = take (64 * k + 64 - 64 * k) (drop (64 * k) out)

  size : length old ≡ 64
  size = simp (length-take, length-drop) (omega arith)

  only_cell : get_refusal m s n k (length old) ≡ cell_refusal (m.slot s) n k
  only_cell = within_shape m s s< n k n< k< (length old) size (cell_refusal (m.slot s) n k)

  -- the first place that gives no block ends the loop
  pub stops : (f : Refusal) → r ≡ Err f → first (cell_refusal (m.slot s) n) k ≡ None → first (cell_refusal (m.slot s) n) m.shape.places ≡ Some f
  stops f e none =
      let here = sym only_cell ∙ outcome_refused (get_refusal m s n k (length old)) tt f (sym answer.answer ∙ e) in
      first_found (cell_refusal (m.slot s) n) k m.shape.places none (ap is_some here) k< ∙ here

  -- one place more
  pub goes_on : r ≡ Ok tt → length new ≡ length old → Gathered m s n k out → Gathered m s n (k + 1) (put_mid (64 * k) (64 * k + 64 - 64 * k) out new)
  goes_on e long before =
      let c = cells_of (m.slot s) in
      let allowed = outcome_done (get_refusal m s n k (length old)) tt tt (sym answer.answer ∙ e) in
      let none = sym only_cell ∙ allowed in
      let is = turned _ _ _ _ _ answer allowed ∙ given_block (m.slot s) n k old none in
      let more : gathered c n (k + 1) ≡ gathered c n k ++ unwrap_or (c n k) [] = rw add-one in
      record {
        none = first_more (cell_refusal (m.slot s) n) k before.none none;
        bytes = take-put_mid (64 * k) (64 * k + 64 - 64 * k) out new (64 * (k + 1)) (omega (arith, long, size)) (omega arith) ∙ ap (λ x. x ++ new) before.bytes
            ∙ ap (λ x. gathered c n k ++ x) is ∙ sym more;
      }

module _ (m : Meaning) (s n : ℕ) (old : List ℕ) (reads : Reads m s n (length old)) where
  only_places : rank_refusal m s n (length old) ≡ first (cell_refusal (m.slot s) n) m.shape.places
  only_places =
      rw (lt-leb m.shape.nodes n reads.node, lt-leb m.shape.slots s reads.slot, eq-eqb (length old) (64 * m.shape.places) reads.room)

  pub rank_answered : (r : Result Unit Refusal) (new : List ℕ) → length new ≡ length old → IfErr r (λ _. new ≡ old) → Ends m s n r new → RankAnswer m s n old r new
  rank_answered (Ok tt) new len kept ends =
      turns_done _ old _ new (only_places ∙ ends.none) (sym (take_all (64 * m.shape.places) new (omega (arith, reads.room))) ∙ ends.bytes)
  rank_answered (Err f) new len kept ends =
      subst (λ x. RankAnswer m s n old (Err f) x) (sym kept) (turns_refused _ f old _ (only_places ∙ ends))
