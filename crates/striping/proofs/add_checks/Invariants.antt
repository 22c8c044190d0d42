use Rattle.std.proofs.Common.{◌+◌}
use Rattle.code.specs.Calls.{first}
use Rattle.striping.specs.Stripe.{Stores}
use Rattle.striping.proofs.add_checks.Given as goal

abbrev pub invariant-loop-e : goal.invariant-loop-e
invariant-loop-e g l =
    let code = g.C.Code.coding l.code in
    Stores l.e l.checks (λ i. code.whole (first code.k l.given) (code.k + i))
