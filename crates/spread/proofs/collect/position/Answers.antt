use Rattle.std.proofs.Common.{◌≡◌, ◌+◌, ap, ◌∙◌, arith, ◌<◌, ◌*◌}
use Rattle.stripe_map.proofs.Found.{traced}
use Rattle.level.specs.Checks.{start_of, position_of}
use Rattle.level.proofs.Collecting.{few_data, position_within}
use Rattle.spread.proofs.collect.position.Goals as goal
use Rattle.spread.proofs.collect.position.Goals.{After-start}

pub start-requires : goal.start-requires
start-requires c = (traced c.args.layout.now c.args.node c.args.place _ _ c.trace.ensures c.unwrap-member.ensures).among

within : (c : After-start) → c.start.result + c.unwrap-member.result.number < c.args.layout.now.nodes * (c.args.layout.now.k * c.args.layout.now.lanes)
within c =
    let l = c.args.layout.now in
    let t = traced l c.args.node c.args.place _ _ c.trace.ensures c.unwrap-member.ensures in
    let is : c.start.result + c.unwrap-member.result.number ≡ position_of l c.args.node c.args.place
    = ap (λ x. x + c.unwrap-member.result.number) c.start.ensures.is ∙ ap (λ m. start_of l m.stripe + m.number) t.is in
    omega (arith, is, position_within l c.args.node c.args.place c.requires.0 c.requires.1)

pub overflow_add-result : goal.overflow_add-result
overflow_add-result c = omega (arith, within (goal.at.overflow_add-result c).After-start, few_data c.args.layout.now)

pub returns-clause-within : goal.returns-clause-within
returns-clause-within c = within (goal.at.returns-clause-within c).After-start
