use Rattle.bank.proofs.Table.{seal_table}
use Rattle.bank.proofs.BankBareStore.close.Goals as goal

pub invariant_of-self : goal.invariant_of-self
invariant_of-self c =
    let b = c.args.self.now in
    record { sound = (seal_table b.shape b.states b.cells.now b.sound c.args.slot c.requires.inside c.requires.opened c.requires.full).sound }

pub returns : goal.returns
returns c =
    let b = c.args.self.now in
    (seal_table b.shape b.states b.cells.now b.sound c.args.slot c.requires.inside c.requires.opened c.requires.full).grid
