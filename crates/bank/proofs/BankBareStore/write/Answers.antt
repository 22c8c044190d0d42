use Rattle.std.proofs.Common.{arith}
use Rattle.block.specs.Block.{IsBlock}
use Rattle.bank.proofs.Table.{put_table}
use Rattle.bank.proofs.BankBareStore.write.Goals as goal

pub invariant_of-self : goal.invariant_of-self
invariant_of-self c =
    let b = c.args.self.now in
    let is : IsBlock c.args.block.now = record { size = c.requires.size; bytes = λ i. omega (arith, c.type_inv.block i) } in
    record { sound = (put_table b.shape b.states b.cells.now b.sound c.args.slot c.args.node c.args.place c.index_of-i.result c.args.block.now c.copy_from_slice.new.self c.requires.inside.0 (c.requires.inside.1, c.requires.inside.2) is c.requires.opened c.index_of-i.ensures.is c.copy_from_slice.ensures.after).sound }

pub returns : goal.returns
returns c =
    let b = c.args.self.now in
    let is : IsBlock c.args.block.now = record { size = c.requires.size; bytes = λ i. omega (arith, c.type_inv.block i) } in
    (put_table b.shape b.states b.cells.now b.sound c.args.slot c.args.node c.args.place c.index_of-i.result c.args.block.now c.copy_from_slice.new.self c.requires.inside.0 (c.requires.inside.1, c.requires.inside.2) is c.requires.opened c.index_of-i.ensures.is c.copy_from_slice.ensures.after).grid
