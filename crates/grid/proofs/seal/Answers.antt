use Rattle.std.proofs.Common.{rules}
use Rattle.grid.proofs.Calls.{seal_does}
use Rattle.grid.proofs.seal.Goals as goal

pub returns-clause-means : goal.returns-clause-means
returns-clause-means g c = let k = g.B.BareReading.sound c.args.store.now in search (rules, seal_does)
