use Rattle.store.specs.declared.kinds.State.TheVariants.{Sealed}
use Rattle.grid.specs.Grid.{marked}
use Rattle.image_format.proofs.Held.{Becomes}
use Rattle.image_format.proofs.Steps.{seal_image}
use Rattle.block_file.specs.File.{shape_of, grid_of}
use Rattle.block_file.proofs.BlockFileBareStore.close.Goals as goal
use Rattle.block_file.proofs.BlockFileBareStore.close.Goals.{After-write_bytes}

closed : (c : After-write_bytes) → Becomes (shape_of c.args.self.now) c.write_bytes.new.image (marked (grid_of c.args.self.now) c.args.slot Sealed)
closed c =
    let f = c.args.self.now in
    seal_image f.shape f.image.now c.write_bytes.new.image f.laid c.write_bytes.auto.image c.args.slot c.requires.inside c.head_bytes.result c.write_bytes.ensures c.head_bytes.ensures c.requires.opened c.requires.full

pub invariant_of-self : goal.invariant_of-self
invariant_of-self c = record { laid = (closed c).sound }

pub returns : goal.returns
returns c = (closed (goal.at.returns c).After-write_bytes).becomes
