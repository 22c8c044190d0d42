use Rattle.std.proofs.Common.{◌*◌, ◌≤◌, length, arith}
use Rattle.image_reader.specs.Damage.{head_damage_at}
use Rattle.refusal.proofs.Stopping.{stops_at, goes_on}
use Rattle.image_reader.proofs.Heads.{within, tested}
use Rattle.image_reader.proofs.laid.Laid.check_heads.Goals as goal

pub returns-then-not-is_head : goal.returns-then-not-is_head
returns-then-not-is_head c =
    let self = c.args.self.now in
    let heads = c.as_chunks.result.0.now in
    let long : 8 * self.shape.slots ≤ length self.bytes.now = omega arith in
    let chunks = c.as_chunks.ensures in
    stops_at (head_damage_at self.bytes.now) c.loop-slot.slot self.shape.slots _ c.loop-slot.invariant
    (tested self.bytes.now self.shape.slots long heads chunks.front chunks.front_len c.loop-slot.slot c.loop-slot-test.true _ c.if-not-is_head.ensures)
    (within self.bytes.now self.shape.slots long heads chunks.front chunks.front_len c.loop-slot.slot c.loop-slot-test.true)

pub loop-slot-preserved : goal.loop-slot-preserved
loop-slot-preserved c =
    let self = c.args.self.now in
    let heads = c.as_chunks.result.0.now in
    let long : 8 * self.shape.slots ≤ length self.bytes.now = omega arith in
    let chunks = c.as_chunks.ensures in
    goes_on (head_damage_at self.bytes.now) c.loop-slot.slot c.loop-slot.invariant
    (tested self.bytes.now self.shape.slots long heads chunks.front chunks.front_len c.loop-slot.slot c.loop-slot-test.true _ c.if-not-is_head.ensures)
