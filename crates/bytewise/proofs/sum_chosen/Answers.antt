use Rattle.std.proofs.Common.{◌≡◌, ℕ, ◌+◌, ◌*◌, ◌<◌, false, get_or, length, length-drop, rules, ap, ◌∙◌, ⊎_elim, subst, ap₂, arith}
use Rattle.std.specs.Iterator.Adapters.{enumerate_count, zip_first, zip_second}
use Rattle.field.specs.Field.{mul}
use Rattle.field.specs.Sums.{summed}
use Rattle.bytewise.proofs.Steps.{block_turn, blocks_end, blocks_start, flag_is, flags_left, sum_start, sum_turn, sum_pass}
use Rattle.bytewise.proofs.sum_chosen.Goals as goal

pub loop-i-init : goal.loop-i-init
loop-i-init g c = record {
  left = search (rules, blocks_start);
  flags = search rules;
  added = λ j l. sum_start _ _ _ _ j (search rules) l (search rules);
}

pub loop-i-preserved-then-is_chosen : goal.loop-i-preserved-then-is_chosen
loop-i-preserved-then-is_chosen g c =
    let at = zip_first c.loop-i.i-iterator in
    let turn = block_turn c.args.blocks.now at (zip_first c.next.new.self) c.loop-i.invariant.left c.in-Some.i c.in-Some.block c.in-Some.ensures.steps.0 in
    record {
      left = turn.left;
      flags = flags_left c.args.chosen.now _ _ _ (zip_second c.loop-i.i-iterator) (zip_second c.next.new.self) c.in-Some.is_chosen c.loop-i.invariant.flags turn.number turn.next c.in-Some.ensures.steps.1;
      added = λ j l.
          c.add_scaled.ensures j l
          ∙ sum_turn _ _ _ _ c.in-Some.i turn.number turn.next _ _ (c.loop-i.invariant.added j l)
          (flag_is c.args.chosen.now _ _ _ (zip_second c.loop-i.i-iterator) (zip_second c.next.new.self) c.in-Some.is_chosen c.loop-i.invariant.flags turn.number turn.next c.in-Some.ensures.steps.1 ∙ c.if-is_chosen.true)
          (ap₂ mul (turn.byte j l) c.weight.ensures);
    }

pub loop-i-preserved : goal.loop-i-preserved
loop-i-preserved g c =
    let at = zip_first c.loop-i.i-iterator in
    let turn = block_turn c.args.blocks.now at (zip_first c.next.new.self) c.loop-i.invariant.left c.in-Some.i c.in-Some.block c.in-Some.ensures.steps.0 in
    record {
      left = turn.left;
      flags = flags_left c.args.chosen.now _ _ _ (zip_second c.loop-i.i-iterator) (zip_second c.next.new.self) c.in-Some.is_chosen c.loop-i.invariant.flags turn.number turn.next c.in-Some.ensures.steps.1;
      added = λ j l. sum_pass _ _ _ _ c.in-Some.i turn.number turn.next _ (c.loop-i.invariant.added j l)
          (flag_is c.args.chosen.now _ _ _ (zip_second c.loop-i.i-iterator) (zip_second c.next.new.self) c.in-Some.is_chosen c.loop-i.invariant.flags turn.number turn.next c.in-Some.ensures.steps.1 ∙ c.if-is_chosen.false);
    }

pub returns : goal.returns
returns g c =
    let blocks = c.args.blocks.now in
    let at = zip_first c.loop-i.i-iterator in
    let r = g.B.Bytewise.recipe c.args.code.now in
    let chosen = λ (i : ℕ). get_or c.args.chosen.now i false in
    let all : enumerate_count at ≡ r.k + r.m =
    ⊎_elim (λ u. blocks_end blocks at u.0 c.loop-i.invariant.left (r.k + r.m) c.requires.long.1 u.1)
    (λ u. omega (arith, u.1.0, ap length c.loop-i.invariant.flags, length-drop (enumerate_count at) c.args.chosen.now, c.loop-i.invariant.left.within, c.requires.long.0, c.requires.long.1))
    c.in-None.ensures.steps in
    subst (λ n. (j : ℕ) → j < 64 → get_or c.loop-i.out j 0 ≡ summed chosen (λ i. mul (get_or blocks (i * 64 + j) 0) (r.weight chosen c.args.wanted i)) n)
    all c.loop-i.invariant.added
