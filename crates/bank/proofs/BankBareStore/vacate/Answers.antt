use Rattle.bank.proofs.Table.{clear_table}
use Rattle.bank.proofs.BankBareStore.vacate.Goals as goal

pub invariant_of-self : goal.invariant_of-self
invariant_of-self c =
    let b = c.args.self.now in
    record { sound = (clear_table b.shape b.states b.cells.now b.sound c.args.slot c.index_of-from.result c.wipe_cells.new.cells c.requires c.index_of-from.ensures.is c.wipe_cells.auto.cells c.wipe_cells.ensures).sound }

pub returns : goal.returns
returns c =
    let b = c.args.self.now in
    (clear_table b.shape b.states b.cells.now b.sound c.args.slot c.index_of-from.result c.wipe_cells.new.cells c.requires c.index_of-from.ensures.is c.wipe_cells.auto.cells c.wipe_cells.ensures).grid
