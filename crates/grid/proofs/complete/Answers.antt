use Rattle.std.proofs.Common.{sym}
use Rattle.refusal.proofs.Stopping.{handed_on}
use Rattle.store.specs.Calls.{absent_at}
use Rattle.grid.proofs.complete.Goals as goal

pub returns-in_err-node_complete : goal.returns-in_err-node_complete
returns-in_err-node_complete g c =
    let k = g.B.BareReading.grid c.args.store.now in
    handed_on (absent_at k.shape (k.cell c.args.slot)) c.loop-node.node k.shape.nodes _ _ c.from_residual.ensures.1 c.loop-node.invariant
    c.in_err-node_complete.ensures (rw (sym c.sizes-node-end.ensures) c.loop-node-test.true)
