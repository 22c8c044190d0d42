use Rattle.std.proofs.Common.{◌<◌, sym}
use Rattle.grid.proofs.Calls.{lose_does}
use Rattle.grid.proofs.lose.Goals as goal

pub returns-clause-means : goal.returns-clause-means
returns-clause-means g c =
    let l : c.args.node < (g.B.BareReading.grid c.args.store.now).shape.nodes = rw (sym c.sizes.ensures) c.if-node-sizes.false in
    lose_does _ _ (g.B.BareReading.sound c.args.store.now) c.args.node l c.forget.ensures.drops
