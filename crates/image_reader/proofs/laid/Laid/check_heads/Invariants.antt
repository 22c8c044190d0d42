use Rattle.std.proofs.Common.{◌≡◌, None}
use Rattle.refusal.specs.Answer.{first}
use Rattle.image_reader.specs.Damage.{head_damage_at}
use Rattle.image_reader.proofs.laid.Laid.check_heads.Given as goal

abbrev pub invariant-loop-slot : goal.invariant-loop-slot
invariant-loop-slot l = first (head_damage_at l.self.bytes.now) l.slot ≡ None
