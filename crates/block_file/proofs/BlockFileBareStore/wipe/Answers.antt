use Rattle.image_format.proofs.Steps.{Wipes, wipe_image}
use Rattle.block_file.specs.File.{shape_of}
use Rattle.block_file.proofs.BlockFileBareStore.wipe.Goals as goal
use Rattle.block_file.proofs.BlockFileBareStore.wipe.Goals.{After-wipe_bytes}

after : (c : After-wipe_bytes) → Wipes (shape_of c.args.self.now) c.args.self.now.image.now c.wipe_bytes.new.image c.args.slot c.args.node
after c =
    let f = c.args.self.now in
    wipe_image f.shape f.image.now c.wipe_bytes.new.image f.laid c.wipe_bytes.auto.image c.args.slot c.args.node c.start_of-from.result c.requires.0 c.requires.1 c.start_of-from.ensures.at c.wipe_bytes.ensures

pub invariant_of-self : goal.invariant_of-self
invariant_of-self c = record { laid = (after (goal.at.invariant_of-self c).After-wipe_bytes).image.sound }

pub returns : goal.returns
returns c =
    let w = after (goal.at.returns c).After-wipe_bytes in
    record {
      drops = w.image.becomes;
      wiped = w.here;
      kept = λ s n s< n< e p p<. w.still s n p s< n< p< (e p p<);
    }
