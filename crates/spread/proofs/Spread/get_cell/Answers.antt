use Rattle.std.proofs.Common.{rules}
use Rattle.std.proofs.lemmas.Bool.{and_left}
use Rattle.level.proofs.Getting.{get_passes}
use Rattle.spread.proofs.Spread.get_cell.Goals as goal

pub returns-in_default-2 : goal.returns-in_default-2
returns-in_default-2 g c = λ h.
    let x = c.args.self.now in
    get_passes x.layout (g.C.Code.coding x.code) (g.S.Reading.meaning x.below) h.1.matches.fits c.args.slot c.args.node c.args.place c.requires.node c.requires.place c.args.out.now c.get.new.out _
    (c.in_default.ensures h.0) (search (rules, and_left))
