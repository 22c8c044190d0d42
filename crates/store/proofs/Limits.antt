-- The limits of the sizes, as facts and as a test.
use Rattle.std.proofs.Common.{◌≡◌, true, arith}
use Rattle.std.proofs.lemmas.Bool.Decides.{nat_tests}
use Rattle.store.specs.declared.kinds.Shape.{Shape}
use Rattle.store.specs.Meaning.{Limits, within_limits}

pub limits_from : (s : Shape) → within_limits s ≡ true → Limits s
limits_from s e =
    record {
      nodes_least = grind (arith, nat_tests);
      nodes_most = grind (arith, nat_tests);
      places_least = grind (arith, nat_tests);
      places_most = grind (arith, nat_tests);
      slots_least = grind (arith, nat_tests);
      slots_most = grind (arith, nat_tests);
    }

pub limits_pass : (s : Shape) → Limits s → within_limits s ≡ true
limits_pass s l = grind (arith, nat_tests)
