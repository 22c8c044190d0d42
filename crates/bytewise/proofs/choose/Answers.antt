use Rattle.std.proofs.Common.{rules, refl, arith}
use Rattle.bytewise.proofs.Steps.{marks_turn, marks_end}
use Rattle.bytewise.proofs.choose.Goals as goal

pub loop-i-preserved : goal.loop-i-preserved
loop-i-preserved c = record {
  room = search rules;
  few = search rules;
  left =
      marks_turn _ _ _ _ _ (λ p x b q k. search rules) c.loop-i.i-iterator c.next.new.self c.loop-i.invariant.left refl (c.in-Some.i, c.in-Some.field-0-1)
      c.in-Some.ensures.steps (omega (arith, c.loop-i.invariant.room, c.loop-i.invariant.few));
}

pub returns : goal.returns
returns c =
    marks_end _ _ _ _ _ (λ p x b q k. search rules) c.loop-i.i-iterator c.next.new.self c.loop-i.invariant.left refl c.in-None.ensures.steps
