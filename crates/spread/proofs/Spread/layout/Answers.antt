use Rattle.level.proofs.Words.{at_layout}
use Rattle.level.proofs.Promised.{promised}
use Rattle.spread.proofs.Spread.layout.Goals as goal

pub returns-clause-promise : goal.returns-clause-promise
returns-clause-promise g c = λ s a.
    let x = c.args.self.now in
    let K = g.C.Code.coding x.code in
    let b = g.S.Reading.meaning x.below in
    promised x.layout K (at_layout x.layout K b.shape a.matches (g.C.Code.completes x.code) (g.C.Code.determines x.code)) b (g.S.Reading.lawful x.below s) a
