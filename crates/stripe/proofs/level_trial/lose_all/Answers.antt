use Rattle.std.proofs.Common.{fold, ap, ◌∙◌}
use Rattle.std.proofs.lemmas.List.{take_all}
use Rattle.store.specs.Calls.{losing}
use Rattle.stripe.proofs.Seen.{lost_more}
use Rattle.stripe.proofs.level_trial.lose_all.Goals as goal

pub loop-node-preserved : goal.loop-node-preserved
loop-node-preserved g c = λ sound.
    let before = c.loop-node.invariant sound in (
      c.lose.ensures.sound before.0,
      lost_more (g.S.Reading.meaning c.args.store.now) (g.S.Reading.meaning c.loop-node.store)
          (g.S.Reading.meaning c.lose.new.self) c.args.nodes.now c.loop-node.node-index c.loop-node-test.true before.1
          (c.in_ok-lose.ensures.means before.0),
    )

pub returns : goal.returns
returns g c = record {
  sound = λ sound. (c.loop-node.invariant sound).0;
  means = λ sound.
      (c.loop-node.invariant sound).1
      ∙ ap (fold losing (g.S.Reading.meaning c.args.store.now)) (take_all c.loop-node.node-index c.args.nodes.now c.loop-node-test.false);
}
