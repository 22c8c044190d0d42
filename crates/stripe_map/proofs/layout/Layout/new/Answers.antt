use Rattle.std.proofs.Common.{sym, arith}
use Rattle.store.proofs.Limits.{limits_from}
use Rattle.stripe_map.proofs.layout.Layout.new.Goals as goal

pub invariant_of-result-clause-room : goal.invariant_of-result-clause-room
invariant_of-result-clause-room c = let h = limits_from c.args.shape (sym c.if-not-is_admitted.ensures) in omega (arith, h.places_most)
