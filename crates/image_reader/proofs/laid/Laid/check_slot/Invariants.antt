use Rattle.std.proofs.Common.{◌≡◌, None}
use Rattle.refusal.specs.Answer.{first}
use Rattle.image_reader.specs.Damage.{node_damage}
use Rattle.image_reader.proofs.laid.Laid.check_slot.Given as goal

abbrev pub invariant-loop-node : goal.invariant-loop-node
invariant-loop-node l = first (node_damage l.self.shape l.self.bytes.now l.slot) l.node ≡ None
