use Rattle.std.proofs.Common.{length}
use Rattle.level_tests.proofs.tests.+covered.Given as goal

abbrev pub decreases-covered : goal.decreases-covered
decreases-covered l = length l.layers.now
