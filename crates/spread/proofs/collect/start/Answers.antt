use Rattle.std.proofs.Common.{refl}
use Rattle.level.specs.Checks.{start_of}
use Rattle.level.proofs.Collecting.{start_within}
use Rattle.spread.proofs.collect.start.Goals as goal

pub returns : goal.returns
unfolding start_of
returns c = record { is = refl; within = start_within c.args.layout.now c.args.stripe c.requires }
