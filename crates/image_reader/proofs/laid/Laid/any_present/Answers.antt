use Rattle.std.proofs.Common.{rules, refl, ◌∙◌, arith}
use Rattle.std.proofs.lemmas.Iterator.{YieldsList-from_range}
use Rattle.std.proofs.lemmas.Iterator.Search.{any_from_yields_List}
use borrow.Author.Tests.{tests}
use Rattle.image_reader.specs.Damage.{present}
use Rattle.image_reader.proofs.Below.{some_listed}
use Rattle.image_reader.proofs.laid.Laid.any_present.Goals as goal

pub returns : goal.returns
returns c =
    let self = c.args.self.now in
    let f = present self.shape self.bytes.now c.args.slot c.args.node in
    any_from_yields_List f _ _ _ c.any.ensures.ran (YieldsList-from_range 0 self.shape.places self.shape.places refl (omega arith)) (λ x b q k. search (rules, tests)) ∙ some_listed f self.shape.places
