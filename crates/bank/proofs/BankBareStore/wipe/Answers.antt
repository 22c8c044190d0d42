use Rattle.bank.proofs.Table.{wipe_table}
use Rattle.bank.proofs.BankBareStore.wipe.Goals as goal

pub invariant_of-self : goal.invariant_of-self
invariant_of-self c =
    let b = c.args.self.now in
    record { sound = (wipe_table b.shape b.states b.cells.now b.sound c.args.slot c.args.node c.index_of-from.result c.wipe_cells.new.cells c.requires.1 c.index_of-from.ensures.is c.wipe_cells.auto.cells c.wipe_cells.ensures).sound }

pub returns-clause-drops : goal.returns-clause-drops
returns-clause-drops c =
    let b = c.args.self.now in
    (wipe_table b.shape b.states b.cells.now b.sound c.args.slot c.args.node c.index_of-from.result c.wipe_cells.new.cells c.requires.1 c.index_of-from.ensures.is c.wipe_cells.auto.cells c.wipe_cells.ensures).grid
