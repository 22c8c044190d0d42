use Rattle.std.proofs.Common.{is_some, ap, ◌∙◌, arith}
use Rattle.std.proofs.lemmas.Result.{err_from_is_err_and}
use Rattle.refusal.proofs.First.{first_found}
use Rattle.store.specs.Calls.{cells_of, absent_at}
use Rattle.level.specs.Level.{level_shape}
use Rattle.spread.proofs.Spread.collect.Goals as goal

pub returns-in_err-collect_node : goal.returns-in_err-collect_node
returns-in_err-collect_node g c = λ h slot.
    let l = c.args.self.now.layout in
    let m = g.S.Reading.meaning c.args.self.now.below in
    let f = absent_at (level_shape l m.shape) (cells_of (m.slot c.args.slot)) in
    let inv = c.loop-node.invariant h slot in
    let here = c.in_err-collect_node.ensures h slot inv.0 in
    let r = err_from_is_err_and c.from_residual.result c.from_residual.ensures.1 in
    rw (r.1, r.2) (first_found f c.loop-node.node m.shape.nodes inv.1 (ap is_some here) (omega (arith, c.loop-node-test.true, h.1.matches.fits.nodes)) ∙ here)
