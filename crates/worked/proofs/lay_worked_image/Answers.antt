use Rattle.std.proofs.Common.{refl, ◌∙◌}
use Rattle.std.proofs.lemmas.Result.{err_from_is_err_and}
use Rattle.block_file.specs.File.{shape_of}
use Rattle.worked.proofs.Bytes.{worked_values, as_expected}
use Rattle.worked.proofs.lay_worked_image.Goals as goal

pub returns-in_err-check : goal.returns-in_err-check
returns-in_err-check c =
    let p = err_from_is_err_and c.from_residual.result c.from_residual.ensures.1 in
    rw (p.1, p.2) (record { answer = c.in_err-check.ensures; laid = tt; untouched = refl; worked = worked_values })

pub returns : goal.returns
returns c =
    let f = c.fill.new.file in
    record {
      answer = c.in_ok-check.ensures;
      laid = c.copy_from_slice.ensures.after ∙ c.image.ensures ∙ as_expected (shape_of f) f.image.now f.laid c.fill.ensures.means;
      untouched = tt;
      worked = worked_values;
    }
