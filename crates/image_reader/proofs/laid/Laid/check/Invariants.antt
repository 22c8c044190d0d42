use Rattle.std.proofs.Common.{◌≡◌, None}
use Rattle.refusal.specs.Answer.{first}
use Rattle.image_reader.specs.Damage.{slot_damage}
use Rattle.image_reader.proofs.laid.Laid.check.Given as goal

abbrev pub invariant-loop-slot : goal.invariant-loop-slot
invariant-loop-slot l = first (slot_damage l.self.shape l.self.bytes.now) l.slot ≡ None
