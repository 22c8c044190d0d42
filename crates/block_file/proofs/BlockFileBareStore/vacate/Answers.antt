use Rattle.std.proofs.Common.{refl}
use Rattle.store.specs.declared.kinds.State.TheVariants.{Empty}
use Rattle.grid.specs.Grid.{cleared}
use Rattle.image_format.specs.Image.{head_of}
use Rattle.image_format.proofs.Held.{Becomes}
use Rattle.image_format.proofs.Steps.{clear_image}
use Rattle.block_file.specs.File.{shape_of, grid_of}
use Rattle.block_file.proofs.BlockFileBareStore.vacate.Goals as goal
use Rattle.block_file.proofs.BlockFileBareStore.vacate.Goals.{After-empty_bytes}

emptied : (c : After-empty_bytes) → Becomes (shape_of c.args.self.now) c.empty_bytes.new.image (cleared (grid_of c.args.self.now) c.args.slot)
emptied c =
    let f = c.args.self.now in
    let e = c.empty_bytes.ensures in
    clear_image f.shape f.image.now c.empty_bytes.new.image f.laid c.empty_bytes.auto.image c.args.slot c.requires e.0 (head_of Empty) e.1 refl e.2 c.start_of-from.result c.start_of-from.ensures.at e.3

pub invariant_of-self : goal.invariant_of-self
invariant_of-self c = record { laid = (emptied c).sound }

pub returns : goal.returns
returns c = (emptied (goal.at.returns c).After-empty_bytes).becomes
