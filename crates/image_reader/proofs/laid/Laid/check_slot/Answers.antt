use Rattle.image_reader.specs.Damage.{node_damage}
use Rattle.refusal.proofs.Stopping.{handed_on}
use Rattle.image_reader.proofs.laid.Laid.check_slot.Goals as goal

pub returns-in_err-check_node : goal.returns-in_err-check_node
returns-in_err-check_node c =
    let self = c.args.self.now in
    handed_on (node_damage self.shape self.bytes.now c.args.slot) c.loop-node.node self.shape.nodes _ _ c.from_residual.ensures.1 c.loop-node.invariant
    c.in_err-check_node.ensures c.loop-node-test.true
