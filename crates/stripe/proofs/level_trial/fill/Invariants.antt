use Rattle.stripe.proofs.level_trial.fill.Given as goal

abbrev pub invariant-loop-place : goal.invariant-loop-place
invariant-loop-place g l = g.S.Reading.sound l.initial.store → g.S.Reading.sound l.store

abbrev pub invariant-loop-rank : goal.invariant-loop-rank
invariant-loop-rank g l = g.S.Reading.sound l.initial.store → g.S.Reading.sound l.store
