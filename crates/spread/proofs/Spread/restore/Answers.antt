use Rattle.std.proofs.Common.{rules}
use Rattle.stripe_map.proofs.Found.{traced}
use Rattle.level.proofs.Reading.{cell_restored}
use Rattle.spread.proofs.Spread.restore.Goals as goal

pub gather-requires-clause-stripe : goal.gather-requires-clause-stripe
gather-requires-clause-stripe g c = (traced c.args.self.now.layout c.args.node c.args.place _ _ c.trace.ensures c.unwrap-member.ensures).among

pub returns : goal.returns
returns g c = λ h slot long.
    let x = c.args.self.now in
    cell_restored x.layout (g.C.Code.coding x.code) (g.S.Reading.meaning x.below) c.args.slot c.args.node c.args.place c.unwrap-member.result
    h.1.matches.data_blocks h.1.matches.check_blocks c.requires.place (traced x.layout c.args.node c.args.place _ _ c.trace.ensures c.unwrap-member.ensures).is
    c.gather.new.marks c.gather.new.blocks c.args.out.now c.rebuild.new.out c.rebuild.result c.map_err.result (search rules) (search rules) long (c.gather.ensures h slot) c.rebuild.ensures (search rules)
