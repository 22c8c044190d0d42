use Rattle.std.proofs.Common.{◌≡◌, ℕ, ◌+◌, ◌*◌, ◌<◌, get_or, rules, refl, ◌∙◌, subst, ap₂, arith}
use Rattle.field.specs.Field.{mul}
use Rattle.field.specs.Sums.{summed}
use Rattle.recovery.specs.Rules.{every}
use Rattle.bytewise.proofs.Steps.{block_turn, blocks_end, blocks_start, sum_start, sum_turn}
use Rattle.bytewise.proofs.Written.{check_written}
use Rattle.bytewise.proofs.sum_data.Goals as goal

pub loop-d-init : goal.loop-d-init
loop-d-init g c = record {
  room = search rules;
  left = search (rules, blocks_start);
  added = λ j l. sum_start every _ _ _ j (search rules) l (search rules);
}

pub loop-d-preserved : goal.loop-d-preserved
loop-d-preserved g c =
    let turn = block_turn c.args.given.now c.loop-d.d-iterator c.next.new.self c.loop-d.invariant.left c.in-Some.d c.in-Some.block c.in-Some.ensures.steps in
    record {
      room = omega arith;
      left = turn.left;
      added = λ j l.
          c.add_scaled.ensures j l
          ∙ sum_turn every _ _ _ c.in-Some.d turn.number turn.next _ _ (c.loop-d.invariant.added j l) refl (ap₂ mul (turn.byte j l) c.coefficient.ensures);
    }

pub returns : goal.returns
returns g c =
    let code = c.args.code.now in
    let r = g.B.Bytewise.recipe code in
    let given = c.args.given.now in
    check_written r (g.B.Bytewise.works code) given c.requires.long (λ j. (c.type_inv.given j).fits)
    c.args.e c.requires.number c.loop-d.out c.loop-d.invariant.room
    (subst (λ n. (j : ℕ) → j < 64 → get_or c.loop-d.out j 0 ≡ summed every (λ d. mul (get_or given (d * 64 + j) 0) (r.coefficient c.args.e d)) n)
    (blocks_end given c.loop-d.d-iterator c.next.new.self c.loop-d.invariant.left r.k c.requires.long c.in-None.ensures.steps) c.loop-d.invariant.added)
