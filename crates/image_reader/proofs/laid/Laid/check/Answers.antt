use Rattle.std.proofs.Common.{◌≡◌, None, sym}
use Rattle.image_reader.specs.Damage.{head_damage, slot_damage}
use Rattle.refusal.proofs.Turning.{outcome_done}
use Rattle.refusal.proofs.Stopping.{handed_on}
use Rattle.image_reader.proofs.laid.Laid.check.Goals as goal

pub returns-in_err-check_slot : goal.returns-in_err-check_slot
returns-in_err-check_slot c =
    let self = c.args.self.now in
    let heads : head_damage self.shape self.bytes.now ≡ None = outcome_done (head_damage self.shape self.bytes.now) tt tt (sym c.in_ok-check_heads.ensures) in
    rw heads (handed_on (slot_damage self.shape self.bytes.now) c.loop-slot.slot self.shape.slots _ _ c.from_residual-in_err-check_slot.ensures.1 c.loop-slot.invariant
    c.in_err-check_slot.ensures c.loop-slot-test.true)
