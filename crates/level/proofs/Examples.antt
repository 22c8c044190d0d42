-- The worked values of the cover rule, by computing. Assumes nothing.
use Rattle.std.proofs.Common.{refl}
use Rattle.stripe_map.specs.Map.{node_of, place_of, stripe_of}
use Rattle.level.specs.Examples.{CoverExamples}

pub cover_examples : CoverExamples
unfolding node_of place_of stripe_of
cover_examples = record { sum_survives_one = refl; sum_loses_two = refl; copies_lose_one_of_three = refl; tolerances_do_not_add_up = refl }
