use Rattle.std.proofs.Common.{length}
use Rattle.store.specs.Rank.{Reads, Gathered}
use Rattle.store.proofs.gather.Given as goal

abbrev pub invariant-loop-place : goal.invariant-loop-place
invariant-loop-place g l =
    g.R.Reading.sound l.source → Reads (g.R.Reading.meaning l.source) l.slot l.node (length l.initial.out)
    → Gathered (g.R.Reading.meaning l.source) l.slot l.node l.place l.out
