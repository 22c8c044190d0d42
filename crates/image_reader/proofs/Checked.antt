-- What the check of an image tells. Assumes nothing.
use Rattle.std.proofs.Common.{◌≡◌, ℕ, ◌<◌, not, List, length, get_or, OnOk, None, Ok, Err, Result, sym, ap, subst₂, ◌∙◌}
use Rattle.std.specs.Option.{option_or}
use Rattle.std.proofs.lemmas.Bool.{eq-eqb}
use Rattle.refusal.specs.Answer.{outcome}
use Rattle.refusal.specs.declared.kind.Refusal.{Refusal}
use Rattle.refusal.specs.declared.kind.Refusal.TheVariants.{Sizes}
use Rattle.refusal.proofs.First.{none_left}
use Rattle.refusal.proofs.Turning.{refuse_later, outcome_done}
use Rattle.store.specs.declared.kinds.Shape.{Shape}
use Rattle.store.proofs.Limits.{limits_pass}
use Rattle.grid.specs.Index.{table_refusal}
use Rattle.grid.proofs.Sizes.{sizes_limits, sizes_length}
use Rattle.image_format.specs.Image.{size, SoundImage}
use Rattle.image_reader.specs.Damage.{damage, image_refusal}
use Rattle.image_reader.proofs.Passes.{sound_image, undamaged}

module _ (h : Shape) (img : List ℕ) where
  pub unrefused : SoundImage h img → image_refusal h img ≡ None
  unrefused k =
      ap (λ o. option_or o (damage h img))
      (refuse_later _ Sizes _ (ap not (limits_pass h k.grid.limits)) ∙ refuse_later _ Sizes None (ap not (eq-eqb (length img) (size h) k.length)))
      ∙ undamaged h img k

  module _ (r : Result Unit Refusal) (answer : r ≡ outcome (image_refusal h img) tt) where
    pub passed : ((j : ℕ) → get_or img j 0 < 256) → OnOk r (SoundImage h img)
    passed small = go r answer
      where
        go : (r : Result Unit Refusal) → r ≡ outcome (image_refusal h img) tt → OnOk r (SoundImage h img)
        go (Ok x) e =
            let s = none_left (table_refusal h (size h) (length img)) (damage h img) (outcome_done (image_refusal h img) tt x (sym e)) in
            sound_image h (sizes_limits h (size h) (length img) s.0) img (sizes_length h (size h) (length img) s.0) s.1 small
        go (Err f) e = tt

    pub passes : SoundImage h img → r ≡ Ok tt
    passes k = answer ∙ ap (λ o. outcome o tt) (unrefused k)

-- soundness goes with the sizes and the bytes
pub sound_as : (h k : Shape) (img own : List ℕ) → h ≡ k → img ≡ own → SoundImage k own → SoundImage h img
sound_as h k img own e z sound = subst₂ SoundImage (sym e) (sym z) sound
