use Rattle.level.proofs.Words.{at_layout}
use Rattle.level.proofs.Passing.{lose_means, lose_laid}
use Rattle.spread.proofs.SpreadStore.lose.Goals as goal

pub returns-clause-sound : goal.returns-clause-sound
returns-clause-sound g c = λ h.
    let x = c.args.self.now in
    let S = g.S.Reading in
    (c.lose.ensures.sound h.0, lose_laid x.layout (g.C.Code.coding x.code) (S.meaning x.below) (S.meaning c.lose.new.self) (S.lawful x.below h.0) h.1 _ _ (c.lose.ensures.means h.0))

pub returns-clause-means : goal.returns-clause-means
returns-clause-means g c = λ h.
    let x = c.args.self.now in
    let K = g.C.Code.coding x.code in
    let S = g.S.Reading in
    let b = S.meaning x.below in
    lose_means x.layout K b (S.meaning c.lose.new.self) (S.lawful x.below h.0) h.1 c.lose.result c.args.node
    (at_layout x.layout K b.shape h.1.matches (g.C.Code.completes x.code) (g.C.Code.determines x.code)) (c.lose.ensures.means h.0)
