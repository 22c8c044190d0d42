use Rattle.std.proofs.Common.{◌+◌}
use Rattle.level.specs.Checks.{OneCheck, NodeTo}
use Rattle.level.proofs.Sealing.{node_more}
use Rattle.spread.proofs.Steps.{writes_more}
use Rattle.spread.proofs.Spread.write_node.Goals as goal

pub loop-place-preserved : goal.loop-place-preserved
loop-place-preserved g c =
    let x = c.args.self.now in
    let n = c.args.node in
    let p = c.loop-place.place in
    writes_more g.C.Code.coding g.S.Reading.sound g.S.Reading.meaning (NodeTo x.layout n p) (NodeTo x.layout n (p + 1)) (λ l. OneCheck l n p) c.args.slot c.args.bytes.now x c.loop-place.self c.write_check.new.self
    (λ r. node_more x.layout (g.C.Code.coding x.code).whole c.args.slot n p _ _ _ c.args.bytes.now r) c.loop-place.invariant c.write_check.ensures
