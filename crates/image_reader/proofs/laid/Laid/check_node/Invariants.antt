use Rattle.std.proofs.Common.{◌≡◌, None}
use Rattle.refusal.specs.Answer.{first}
use Rattle.image_reader.specs.Damage.{record_damage}
use Rattle.image_reader.proofs.laid.Laid.check_node.Given as goal

abbrev pub invariant-loop-place : goal.invariant-loop-place
invariant-loop-place l = first (record_damage l.self.shape l.self.bytes.now l.slot l.node) l.place ≡ None
