use Rattle.striping.proofs.Forgetting.{Forgot}
use Rattle.striping.proofs.forget.Given as goal

abbrev pub invariant-loop-i : goal.invariant-loop-i
invariant-loop-i l = Forgot l.marks l.initial.blocks l.blocks l.i
