use Rattle.bank.proofs.Table.{new_table}
use Rattle.bank.proofs.Bank.new.Goals as goal

pub invariant_of-result : goal.invariant_of-result
invariant_of-result c = record { sound = new_table c.args.shape c.args.cells.now c.fill.new.self c.requires (c.fill.ensures.after (λ y e. e)) }
