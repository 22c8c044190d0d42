use Rattle.std.proofs.Common.{sym, ◌≡◌, is_some, not, None, rules}
use Rattle.refusal.specs.Answer.{refuse}
use Rattle.refusal.specs.declared.kind.Refusal.TheVariants.{Incomplete}
use Rattle.refusal.proofs.Stopping.{stops_at}
use Rattle.grid.proofs.node_complete.Goals as goal

pub returns-then-is_none : goal.returns-then-is_none
returns-then-is_none g c =
    let k = g.B.BareReading.grid c.args.store.now in
    let n = c.args.node in
    let p = c.loop-place.place in
    let e : k.cell c.args.slot n p ≡ None = search rules in
    stops_at (λ q. refuse (not (is_some (k.cell c.args.slot n q))) (Incomplete n q) None) p k.shape.places (Incomplete n p) c.loop-place.invariant (rw e)
    (rw (sym c.sizes-place-end.ensures) c.loop-place-test.true)
