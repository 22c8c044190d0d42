use Rattle.std.proofs.Common.{◌<◌}
use Rattle.level.specs.Stripes.{Gathered}
use Rattle.spread.specs.Writing.{Sound}
use Rattle.spread.proofs.Spread.gather.Given as goal

abbrev pub invariant-loop-number : goal.invariant-loop-number
invariant-loop-number g l =
    let m = g.S.Reading.meaning l.self.below in
    Sound g.C.Code.coding g.S.Reading.sound g.S.Reading.meaning l.self → l.slot < m.shape.slots
    → Gathered l.self.layout m l.slot l.stripe l.number l.marks l.blocks
