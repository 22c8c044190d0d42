use Rattle.std.proofs.Common.{◌≤◌, sym, subst, arith}
use Rattle.stripe_map.proofs.Back.{block_least}
use Rattle.stripe_map.proofs.Found.{traced}
use Rattle.level.proofs.Checking.{check_is}
use Rattle.level.proofs.Collecting.{few_data}
use Rattle.spread.proofs.Spread.compute_check.Goals as goal

pub start-from-requires : goal.start-from-requires
start-from-requires g c = (traced c.args.self.now.layout c.args.node c.args.place _ _ c.trace.ensures c.unwrap-member.ensures).among

pub overflow_sub-member : goal.overflow_sub-member
overflow_sub-member g c =
    let l = c.args.self.now.layout in
    let t = traced l c.args.node c.args.place _ _ c.trace.ensures c.unwrap-member.ensures in
    subst (λ m. l.k ≤ m.number) (sym t.is) (block_least l c.args.place l.k c.requires.least)

pub returns : goal.returns
returns g c = λ h cells read.
    let l = c.args.self.now.layout in
    check_is l cells c.args.bytes.now read (omega (arith, few_data l, c.told-bytes)) (g.C.Code.coding c.args.self.now.code) c.args.node c.args.place c.unwrap-member.result c.start-from.result
    h.1.matches.data_blocks h.1.matches.check_blocks c.requires (traced l c.args.node c.args.place _ _ c.trace.ensures c.unwrap-member.ensures).is c.start-from.ensures.is
    c.args.out.now c.check.new.out c.told-out c.check.result c.check.ensures
