use Rattle.std.proofs.Common.{arith}
use Rattle.level.proofs.Reading.{gather_more}
use Rattle.spread.proofs.Spread.gather.Goals as goal

pub loop-number-preserved : goal.loop-number-preserved
loop-number-preserved g c = λ h slot.
    let x = c.args.self.now in
    gather_more x.layout (g.S.Reading.meaning x.below) c.args.slot c.args.stripe c.loop-number.number c.fetch.result c.from.result c.loop-number.marks c.loop-number.blocks c.fetch.new.out
    (omega arith) (omega arith) c.from.ensures c.fetch.auto.out (c.fetch.ensures h slot) (c.loop-number.invariant h slot)
