use Rattle.std.proofs.Common.{rules}
use Rattle.image_reader.proofs.Records.{part_of}
use Rattle.image_reader.proofs.cell.Cell.block.Goals as goal

pub returns-clause-part : goal.returns-clause-part
returns-clause-part c = search (rules, part_of)
