use Rattle.std.proofs.Common.{◌≡◌, rules, ap₂}
use Rattle.grid.specs.Grid.{means}
use Rattle.image_format.specs.Image.{grid_at}
use Rattle.block_file.specs.File.{shape_of}
use Rattle.image_reader.proofs.Checked.{unrefused, sound_as}
use Rattle.image_reader.proofs.reader.ImageReader.of.Goals as goal

pub new-requires : goal.new-requires
new-requires c =
    let f = c.args.file.now in
    record {
      passed = search (rules, unrefused, sound_as, f.laid);
      sound = sound_as _ (shape_of f) _ f.image.now (search rules) (search rules) f.laid;
    }

pub returns-clause-passes : goal.returns-clause-passes
returns-clause-passes c = unrefused _ _ c.args.file.now.laid

pub returns-clause-shows : goal.returns-clause-shows
returns-clause-shows c =
    let shape : c.new.result.laid.shape ≡ shape_of c.args.file.now = search rules in
    let image : c.new.result.laid.bytes.now ≡ c.args.file.now.image.now = search rules in
    ap₂ (λ h img. means (grid_at h img)) shape image
