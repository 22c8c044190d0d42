use Rattle.std.proofs.Common.{◌∙◌, arith, rules}
use Rattle.std.proofs.lemmas.Iterator.{YieldsList-from_range}
use Rattle.std.proofs.lemmas.Iterator.Consumers.{count_from_yields_List, YieldsList-from_filter}
use Rattle.image_reader.specs.Reader.{shape_of}
use Rattle.image.specs.Held.{has}
use Rattle.image.proofs.Holding.{passing}
use Rattle.image.proofs.report.Slot.held.Goals as goal

pub returns : goal.returns
returns c =
    let r = c.args.self.now.reader in
    let test = has r c.args.self.now.number c.args.node in
    count_from_yields_List c.filter.result _ c.count.ensures.ran
    (YieldsList-from_filter _ test (YieldsList-from_range 0 (shape_of r).places (shape_of r).places (search rules) (omega arith)) c.filter.ensures.closure (λ x b q k. search rules))
    ∙ passing test (shape_of r).places
