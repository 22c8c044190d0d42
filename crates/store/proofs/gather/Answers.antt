use Rattle.std.proofs.Common.{◌+◌, ◌-◌, ◌*◌, ◌<◌, ◌≤◌, length, sym, subst, arith}
use borrow.Rule.Slice.PartMut.{put_mid}
use Rattle.store.specs.Rank.{Ends}
use Rattle.store.proofs.Rank.{stops, goes_on}
use Rattle.store.proofs.gather.Goals as goal

pub returns-in_default : goal.returns-in_default
returns-in_default g c =
    λ sound reads.
    let m = g.R.Reading.meaning c.args.source.now in
    let k = c.loop-place.place in
    let k< : k < m.shape.places = omega (arith, reads.room, c.loop-place-test.true, c.loop-place.auto.out) in
    let room : 64 * m.shape.places ≤ length c.loop-place.out = omega (arith, reads.room, c.loop-place.auto.out) in
    subst (λ r. Ends m c.args.slot c.args.node r (put_mid (64 * k) (64 * k + 64 - 64 * k) c.loop-place.out c.get-answer.new.out)) (sym c.in_default.is)
    (stops m c.args.slot c.args.node k reads.slot reads.node k< c.loop-place.out room
    c.get-answer.result c.get-answer.new.out (c.get-answer.ensures sound) _ c.in_default.is (c.loop-place.invariant sound reads).none)

pub loop-place-preserved : goal.loop-place-preserved
loop-place-preserved g c =
    λ sound reads.
    let m = g.R.Reading.meaning c.args.source.now in
    let k = c.loop-place.place in
    let k< : k < m.shape.places = omega (arith, reads.room, c.loop-place-test.true, c.loop-place.auto.out) in
    let room : 64 * m.shape.places ≤ length c.loop-place.out = omega (arith, reads.room, c.loop-place.auto.out) in
    goes_on m c.args.slot c.args.node k reads.slot reads.node k< c.loop-place.out room
    c.get-answer.result c.get-answer.new.out (c.get-answer.ensures sound) c.in-Ok.is c.get-answer.auto.out (c.loop-place.invariant sound reads)
