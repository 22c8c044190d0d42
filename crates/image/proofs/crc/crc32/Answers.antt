use Rattle.std.proofs.Common.{ap, ◌∙◌, rules}
use Rattle.std.proofs.lemmas.Iterator.{YieldsList-from_slice}
use Rattle.std.proofs.lemmas.Iterator.Consumers.{fold_from_yields_List}
use lib.Bits.{bit_xor}
use Rattle.image.specs.Crc.{taken}
use Rattle.image.proofs.Rests.{fold_rest}
use Rattle.image.proofs.crc.crc32.Goals as goal

pub returns : goal.returns
returns c =
    let bytes = c.args.bytes.now in
    ap (λ rest. bit_xor rest 4294967295)
    (fold_from_yields_List _ taken _ _ c.fold.ensures.ran (YieldsList-from_slice bytes cc) (λ a x b q k. search rules) ∙ fold_rest bytes)
