use Rattle.std.proofs.Common.{◌≡◌}
use Rattle.level.specs.Clearing.{cleared_to}
use Rattle.spread.proofs.lay.clear_all.Given as goal

abbrev pub invariant-loop-slot : goal.invariant-loop-slot
invariant-loop-slot g l =
    (g.S.Reading.sound l.initial.below → g.S.Reading.sound l.below)
    × (g.S.Reading.sound l.initial.below → g.S.Reading.meaning l.below ≡ cleared_to l.slot (g.S.Reading.meaning l.initial.below))
