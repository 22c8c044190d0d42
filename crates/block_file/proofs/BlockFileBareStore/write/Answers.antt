use Rattle.std.proofs.Common.{arith}
use Rattle.block.specs.Block.{IsBlock}
use Rattle.grid.specs.Grid.{written}
use Rattle.image_format.proofs.Held.{Becomes}
use Rattle.image_format.proofs.Steps.{put_image}
use Rattle.block_file.specs.File.{shape_of, grid_of}
use Rattle.block_file.proofs.BlockFileBareStore.write.Goals as goal
use Rattle.block_file.proofs.BlockFileBareStore.write.Goals.{After-write_bytes}

put : (c : After-write_bytes) → Becomes (shape_of c.args.self.now) c.write_bytes.new.image (written (grid_of c.args.self.now) c.args.slot c.args.node c.args.place c.args.block.now)
put c =
    let f = c.args.self.now in
    let v = c.args.block.now in
    let is : IsBlock v = record { size = c.requires.size; bytes = λ i. omega (arith, c.type_inv.block i) } in
    put_image f.shape f.image.now c.write_bytes.new.image f.laid c.write_bytes.auto.image c.args.slot c.requires.inside.0 c.args.node c.args.place c.requires.inside.1 c.requires.inside.2 v is c.requires.opened c.start_of-at.result c.start_of-at.ensures.at c.present_record-bytes.result c.present_record-bytes.ensures c.write_bytes.ensures

pub invariant_of-self : goal.invariant_of-self
invariant_of-self c = record { laid = (put c).sound }

pub returns : goal.returns
returns c = (put (goal.at.returns c).After-write_bytes).becomes
