use Rattle.std.proofs.Common.{◌≡◌, List, ℕ, length, replicate, ap, ◌∙◌, subst, sym}
use Rattle.grid.proofs.Sizes.{sizes_limits, sizes_length}
use Rattle.grid.specs.Grid.{means, fresh}
use Rattle.image_format.specs.Image.{size}
use Rattle.image_format.proofs.Held.{Becomes}
use Rattle.image_format.proofs.Steps.{new_image}
use Rattle.block_file.proofs.BlockFile.new.Goals as goal
use Rattle.block_file.proofs.BlockFile.new.Goals.{After-fill}

filled : (c : After-fill) → Becomes c.args.shape c.fill.new.self (fresh c.args.shape)
filled c =
    let h = c.args.shape in
    let n = length c.args.image.now in
    let zeros : c.fill.new.self ≡ replicate (size h) 0 = c.fill.ensures.after (λ y e. e) ∙ ap (λ (m : ℕ). replicate m 0) (sizes_length h (size h) n c.requires) in
    subst (λ (img : List ℕ). Becomes h img (fresh h)) (sym zeros) (new_image h (sizes_limits h (size h) n c.requires))

pub invariant_of-result : goal.invariant_of-result
invariant_of-result c = record { laid = (filled (goal.at.invariant_of-result c).After-fill).sound }

pub returns : goal.returns
returns c = let b = filled (goal.at.returns c).After-fill in record { sound = b.sound; means = ap means b.becomes }
