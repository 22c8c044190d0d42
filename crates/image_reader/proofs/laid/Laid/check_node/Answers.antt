use Rattle.image_reader.specs.Damage.{record_damage}
use Rattle.refusal.proofs.Stopping.{handed_on, goes_on}
use Rattle.image_reader.proofs.laid.Laid.check_node.Goals as goal

pub returns-in_err-check : goal.returns-in_err-check
returns-in_err-check c =
    let self = c.args.self.now in
    let cell = c.cell.ensures in
    handed_on (record_damage self.shape self.bytes.now c.args.slot c.args.node) c.loop-place.place self.shape.places _ _ c.from_residual.ensures.1 c.loop-place.invariant
    (rw (cell.0, cell.1, cell.2, cell.3) at c.in_err-check.ensures) c.loop-place-test.true

pub loop-place-preserved : goal.loop-place-preserved
loop-place-preserved c =
    let self = c.args.self.now in
    let cell = c.cell.ensures in
    goes_on (record_damage self.shape self.bytes.now c.args.slot c.args.node) c.loop-place.place c.loop-place.invariant
    (rw (cell.0, cell.1, cell.2, cell.3) at c.in_ok-check.ensures)
