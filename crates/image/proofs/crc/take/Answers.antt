use Rattle.std.proofs.Common.{ap, ◌∙◌, refl, rules}
use Rattle.std.proofs.lemmas.Iterator.{YieldsList-from_range}
use Rattle.std.proofs.lemmas.Iterator.Consumers.{fold_from_yields_List}
use lib.Bits.{bit_xor}
use Rattle.image.specs.Crc.{shifted, shifts}
use Rattle.image.proofs.crc.take.Goals as goal

pub returns : goal.returns
returns c =
    fold_from_yields_List _ (λ rest bit. shifted rest) _ _ c.fold.ensures.ran (YieldsList-from_range 0 8 8 refl refl) (λ a x b q k. search rules)
    ∙ ap (λ b. shifts (bit_xor c.args.old b) 8) c.from.ensures
