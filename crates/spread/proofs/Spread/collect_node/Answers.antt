use Rattle.std.proofs.Common.{◌≡◌, ◌*◌, ◌<◌, sym, ◌∙◌, arith, rules}
use borrow.Rule.Slice.PartMut.{same_len_mid}
use Rattle.std.proofs.lemmas.Result.{err_from_is_err_and}
use Rattle.refusal.specs.declared.kind.Refusal.TheVariants.{Incomplete}
use Rattle.level.proofs.Collecting.{node_stops, node_reads, node_ends}
use Rattle.spread.proofs.Spread.collect_node.Goals as goal

pub returns-in_err-map_err : goal.returns-in_err-map_err
returns-in_err-map_err g c = λ h slot before.
    let x = c.args.self.now in
    let p = c.loop-place.place-counter in
    let p< : p < x.layout.k * x.layout.lanes = omega (arith, c.loop-place-test.true, c.places-place-end.ensures) in
    let named : c.in_err-map_err.field-0.0 ≡ Incomplete c.args.node p = search rules in
    let r = err_from_is_err_and c.from_residual.result c.from_residual.ensures.1 in
    rw (r.1, r.2, named)
    (node_stops x.layout (g.S.Reading.meaning x.below) h.1.matches.fits c.args.slot c.args.node slot c.requires p c.position-at.result c.loop-place.bytes c.get.new.out c.get.result
    p< c.position-at.ensures.is c.loop-place.invariant.0 (c.loop-place.invariant.1 h slot before) (c.get.ensures h.0) (sym c.in_err-map_err.ensures.variant))

pub loop-place-preserved : goal.loop-place-preserved
loop-place-preserved g c = (
  same_len_mid _ _ c.loop-place.bytes c.get.new.out c.get.auto.out ∙ c.loop-place.invariant.0,
  λ h slot before.
      let x = c.args.self.now in
      let p = c.loop-place.place-counter in
      let p< : p < x.layout.k * x.layout.lanes = omega (arith, c.loop-place-test.true, c.places-place-end.ensures) in
      node_reads x.layout (g.S.Reading.meaning x.below) h.1.matches.fits c.args.slot c.args.node slot c.requires p c.position-at.result c.loop-place.bytes c.get.new.out c.get.result
      p< c.position-at.ensures.is c.loop-place.invariant.0 (c.loop-place.invariant.1 h slot before) (c.get.ensures h.0) (sym c.in_ok-map_err.ensures.variant) c.get.auto.out,
)

pub returns : goal.returns
returns g c = λ h slot before.
    let x = c.args.self.now in
    node_ends x.layout (g.S.Reading.meaning x.below) h.1.matches.fits c.args.slot c.args.node slot c.requires c.loop-place.place-counter c.loop-place.bytes
    (omega (arith, c.loop-place-test.false, c.places-place-end.ensures)) (c.loop-place.invariant.1 h slot before)
