-- The worked values of field and code. Assumes nothing.
use Rattle.std.proofs.Common.{refl}
use Rattle.field.specs.Field.{mul, reduced, carryless, reciprocal, partner}
use Rattle.field.specs.Sums.{summed}
use Rattle.codes.specs.Examples.{FieldAndCauchyExamples}

pub examples : FieldAndCauchyExamples
unfolding mul reduced carryless reciprocal partner summed
examples = record {
  two_times_128_is_29 = refl;
  seventeen_times_114_is_1 = refl;
  nothing_times_200_is_0 = refl;
  bytes_1_1_have_checks_170_170 = (refl, refl);
  bytes_1_0_have_checks_216_114 = (refl, refl);
}
