use Rattle.level.specs.Checks.{NodeTo}
use Rattle.spread.specs.Writing.{Writes}
use Rattle.spread.proofs.Spread.write_node.Given as goal

abbrev pub invariant-loop-place : goal.invariant-loop-place
invariant-loop-place g l = Writes g.C.Code.coding g.S.Reading.sound g.S.Reading.meaning (NodeTo l.initial.self.layout l.node l.place) l.slot l.bytes l.initial.self l.self
