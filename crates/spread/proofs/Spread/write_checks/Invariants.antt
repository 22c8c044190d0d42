use Rattle.level.specs.Checks.{NodesTo}
use Rattle.spread.specs.Writing.{Writes}
use Rattle.spread.proofs.Spread.write_checks.Given as goal

abbrev pub invariant-loop-node : goal.invariant-loop-node
invariant-loop-node g l = Writes g.C.Code.coding g.S.Reading.sound g.S.Reading.meaning (NodesTo l.initial.self.layout l.node) l.slot l.bytes l.initial.self l.self
