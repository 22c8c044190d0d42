use Rattle.std.proofs.Common.{◌≡◌, rules}
use Rattle.refusal.specs.Answer.{outcome}
use Rattle.image_reader.specs.Damage.{image_refusal}
use Rattle.image_reader.proofs.Checked.{passed, passes}
use Rattle.image_reader.proofs.reader.ImageReader.check.Goals as goal

pub returns-clause-passed : goal.returns-clause-passed
returns-clause-passed c =
    let answer : c.check-2.result ≡ outcome (image_refusal c.args.shape c.args.image.now) tt = search rules in
    passed c.args.shape c.args.image.now c.check-2.result answer (λ j. (c.type_inv.image j).fits)

pub returns-clause-passes : goal.returns-clause-passes
returns-clause-passes c =
    let answer : c.check-2.result ≡ outcome (image_refusal c.args.shape c.args.image.now) tt = search rules in
    passes c.args.shape c.args.image.now c.check-2.result answer
