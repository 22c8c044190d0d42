use Rattle.std.proofs.Common.{◌∙◌, rules, arith}
use Rattle.std.proofs.lemmas.Iterator.{YieldsList-from_range, YieldsList-from_map}
use Rattle.std.proofs.lemmas.Iterator.Consumers.{sum_from_yields_List, fits_from_yields_list}
use Rattle.image_reader.specs.Reader.{shape_of}
use Rattle.image.specs.Held.{of_node}
use Rattle.image.proofs.Holding.{all_nodes, fits}
use Rattle.image.proofs.report.Slot.cells.Goals as goal

pub sum-requires-clause-fits : goal.sum-requires-clause-fits
sum-requires-clause-fits c =
    let r = c.args.self.now.reader in
    let per_node = of_node r c.args.self.now.number in
    let nodes = (shape_of r).nodes in
    fits_from_yields_list c.map.result _
    (YieldsList-from_map _ per_node (YieldsList-from_range 0 nodes nodes (search rules) (omega arith)) c.map.ensures.closure (λ x b q k. search rules))
    (fits r c.args.self.now.number r.sound.grid.limits)

pub returns : goal.returns
returns c =
    let r = c.args.self.now.reader in
    let per_node = of_node r c.args.self.now.number in
    let nodes = (shape_of r).nodes in
    sum_from_yields_List c.map.result _ c.sum.ensures.ran
    (YieldsList-from_map _ per_node (YieldsList-from_range 0 nodes nodes (search rules) (omega arith)) c.map.ensures.closure (λ x b q k. search rules))
    ∙ all_nodes r c.args.self.now.number nodes
