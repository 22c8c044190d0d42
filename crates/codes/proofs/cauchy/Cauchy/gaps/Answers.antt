use Rattle.std.proofs.Common.{ℕ, Bool, false, not, ◌&&◌, eqb, get_or, sym, refl, ap, ◌∙◌, ap₂, ⊎_elim}
use lib.Bits.{bit_xor}
use Rattle.field.specs.Field.{mul}
use Rattle.field.specs.Sums.{multiplied}
use Rattle.interpolation.proofs.Products.{without, without_itself, without_other, multiplied_more, multiplied_skip}
use Rattle.recovery.specs.Weights.{point}
use Rattle.codes.proofs.cauchy.Cauchy.gaps.Goals as goal
use Rattle.codes.proofs.cauchy.Cauchy.gaps.Goals.{then-is_chosen+then-j-i, else-is_chosen}

pub loop-j-init : goal.loop-j-init
unfolding multiplied
loop-j-init c = refl

pub loop-j-preserved : goal.loop-j-preserved
loop-j-preserved c =
    let chosen : ℕ → Bool = λ j. get_or c.args.chosen.now j false in
    let i = c.args.i in
    let j = c.loop-j.j in
    let difference : ℕ → ℕ = λ x. bit_xor (point c.args.self.now.k c.args.x) (point c.args.self.now.k x) in
    elim c.if-is_chosen.branch [
      | then-is_chosen+then-j-i w ↦
          w.all-is ∙ w.product-all.ensures ∙ ap₂ mul c.loop-j.invariant (ap₂ bit_xor c.point-at.ensures w.point.ensures)
          ∙ sym (multiplied_more (without chosen i) difference j (without_other chosen i j w.if-j-i.true ∙ w.if-is_chosen.true))
      | else-is_chosen w ↦
          w.all-is ∙ c.loop-j.invariant
          ∙ sym (multiplied_skip (without chosen i) difference j
          (⊎_elim (λ s. without_itself chosen i j s.1) (λ s. ap (λ b. b && not (eqb j i)) s) w.else-is_chosen.either))
    ]
