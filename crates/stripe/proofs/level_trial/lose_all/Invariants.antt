use Rattle.std.proofs.Common.{◌≡◌, take, fold}
use Rattle.store.specs.Calls.{losing}
use Rattle.stripe.proofs.level_trial.lose_all.Given as goal

abbrev pub invariant-loop-node : goal.invariant-loop-node
invariant-loop-node g l =
    g.S.Reading.sound l.initial.store
    → g.S.Reading.sound l.store
    × (g.S.Reading.meaning l.store ≡ fold losing (g.S.Reading.meaning l.initial.store) (take l.node-index l.nodes))
