use Rattle.image_reader.proofs.Handing.{shown}
use Rattle.image_reader.proofs.reader.ImageReader.find.Goals as goal

pub returns-clause-cell : goal.returns-clause-cell
returns-clause-cell c =
    let self = c.args.self.now in
    let cell = c.cell.ensures in
    shown self.laid.shape self.laid.bytes.now self.sound c.args.slot c.args.node c.args.place c.requires.0 c.requires.1 c.requires.2 c.block.result
    (rw (cell.0, cell.1, cell.2, cell.3) at c.block.ensures.there) (rw (cell.0, cell.1, cell.2, cell.3) at c.block.ensures.part)
