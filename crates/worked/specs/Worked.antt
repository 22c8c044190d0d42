-- The worked values of all layers, in one statement.
use Rattle.codes.specs.Examples.{FieldAndCauchyExamples}
use Rattle.image_reader.specs.Example.{ImageExample}
use Rattle.level.specs.Examples.{CoverExamples}

pub record WorkedValues : Type 0 where
  pub field_and_codes : FieldAndCauchyExamples
  pub image : ImageExample
  pub cover : CoverExamples
