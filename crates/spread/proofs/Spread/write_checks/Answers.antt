use Rattle.std.proofs.Common.{◌+◌, ◌*◌}
use Rattle.level.specs.Checks.{NodeTo, NodesTo}
use Rattle.level.proofs.Sealing.{nodes_more}
use Rattle.spread.proofs.Steps.{writes_more}
use Rattle.spread.proofs.Spread.write_checks.Goals as goal

pub loop-node-preserved : goal.loop-node-preserved
loop-node-preserved g c =
    let x = c.args.self.now in
    let n = c.loop-node.node in
    writes_more g.C.Code.coding g.S.Reading.sound g.S.Reading.meaning (NodesTo x.layout n) (NodesTo x.layout (n + 1)) (λ l. NodeTo l n ((l.k + l.m) * l.lanes)) c.args.slot c.args.bytes.now x c.loop-node.self c.write_node.new.self
    (λ r. nodes_more x.layout (g.C.Code.coding x.code).whole c.args.slot n _ _ _ c.args.bytes.now r) c.loop-node.invariant c.write_node.ensures
