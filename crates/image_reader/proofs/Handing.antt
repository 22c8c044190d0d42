-- Which block a sound image shows at a cell. Assumes nothing.
use Rattle.std.proofs.Common.{◌≡◌, ℕ, ◌<◌, false, List, is_some, IfSome, Some, None, Option, MatchOption, sym, refl, ap, ◌∙◌}
use Rattle.std.specs.Borrow.{Bor}
use Rattle.std.proofs.lemmas.Bool.{true≢false}
use Rattle.block.specs.Block.{Block}
use Rattle.store.specs.declared.kinds.Shape.{Shape}
use Rattle.grid.specs.Index.{index}
use Rattle.grid.proofs.Row.{row_at}
use Rattle.image_format.specs.Image.{record_at, row_of, marks_of, grid_at, SoundImage}
use Rattle.image_reader.specs.Damage.{present}
use Rattle.image_reader.specs.Reader.{block_part}
use Rattle.image_reader.proofs.Passes.{present_some}
use Rattle.image_reader.proofs.Records.{shows_block, part_of}

-- whether a cell's block is the one that was found
abbrev pub Shows : Option Block → Option (Bor (List ℕ)) → Type 0
Shows cell o = MatchOption o (cell ≡ None) (λ b. cell ≡ Some b.now)

module _ (h : Shape) (img : List ℕ) (k : SoundImage h img) (s n p : ℕ) (s< : s < h.slots) (n< : n < h.nodes) (p< : p < h.places) where
  abbrev bytes : List ℕ
  bytes = record_at h img (index h s n p)

  none : (o : Option Block) → row_of h img (index h s n p) ≡ o → present h img s n p ≡ false → o ≡ None
  none None e t = refl
  none (Some v) e t = absurd (true≢false (sym (present_some h img k s n p s< n< p< v e) ∙ t))

  pub shown : (o : Option (Bor (List ℕ))) → is_some o ≡ present h img s n p → IfSome o (λ b. b.now ≡ block_part h img s n p) → Shows ((grid_at h img).cell s n p) o
  shown None there part = row_at h (marks_of h img) (row_of h img) s n p s< n< p< ∙ none (row_of h img (index h s n p)) refl (sym there)
  shown (Some b) there part = row_at h (marks_of h img) (row_of h img) s n p s< n< p< ∙ shows_block s n p bytes (sym there) ∙ ap Some (part_of h img s n p ∙ sym part)
