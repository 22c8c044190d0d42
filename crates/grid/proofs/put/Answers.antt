use Rattle.std.proofs.Common.{rules}
use Rattle.grid.proofs.Calls.{put_does}
use Rattle.grid.proofs.put.Goals as goal

pub returns-clause-means : goal.returns-clause-means
returns-clause-means g c = let k = g.B.BareReading.sound c.args.store.now in search (rules, put_does)
