-- The worked values, and the bytes of a file that means the worked one. Assumes nothing.
use Rattle.std.proofs.Common.{◌≡◌, ℕ, List, sym, ap, subst}
use Rattle.codes.proofs.Examples.{examples}
use Rattle.store.specs.declared.kinds.Shape.{Shape}
use Rattle.store.specs.Meaning.{Meaning}
use Rattle.grid.specs.Grid.{means}
use Rattle.image_format.specs.Image.{grid_at, SoundImage}
use Rattle.image_reader.specs.Example.{hurt, expected}
use Rattle.image_reader.proofs.Example.{image_example}
use Rattle.level.proofs.Examples.{cover_examples}
use Rattle.worked.specs.Worked.{WorkedValues}

pub worked_values : WorkedValues
worked_values = record { field_and_codes = examples; image = image_example; cover = cover_examples }

-- what it means tells the shape too
pub as_expected : (h : Shape) (img : List ℕ) → SoundImage h img → means (grid_at h img) ≡ hurt → img ≡ expected
as_expected h img k is =
    subst (λ s. SoundImage s img → means (grid_at s img) ≡ hurt → img ≡ expected) (sym (ap (λ (m : Meaning). m.shape) is)) (worked_values.image.bytes img) k is
