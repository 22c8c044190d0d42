use Rattle.grid.proofs.Calls.{clear_does}
use Rattle.grid.proofs.clear.Goals as goal

pub returns-clause-means : goal.returns-clause-means
returns-clause-means g c = clear_does _ _ (g.B.BareReading.sound c.args.store.now) c.args.slot c.in_ok-state.ensures.inside c.vacate.ensures
