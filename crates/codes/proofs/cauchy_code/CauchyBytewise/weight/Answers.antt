use Rattle.std.proofs.Common.{◌≡◌, ℕ, ◌+◌, false, length, get_or, unwrap_or, ap, ◌∙◌, ap₂}
use Rattle.field.specs.Field.{mul, reciprocal}
use Rattle.field.proofs.Inverses.{inverse_or_zero}
use Rattle.recovery.specs.Weights.{gaps}
use Rattle.codes.proofs.cauchy_code.CauchyBytewise.weight.Goals as goal

pub returns : goal.returns
returns c =
    let code = c.args.self.now in
    let among : ℕ → ℕ → ℕ → ℕ = λ n x i. gaps code.k n (λ j. get_or c.args.chosen.now j false) x i in
    let all : (x i : ℕ) → among (length c.args.chosen.now) x i ≡ among (code.k + code.m) x i = λ x i. ap (λ n. among n x i) c.requires.long in
    c.product.ensures
    ∙ ap₂ mul (c.product-over.ensures ∙ ap₂ mul c.scale.ensures (c.gaps.ensures ∙ all c.args.wanted c.args.i))
    (c.unwrap_or.ensures ∙ ap (λ o. unwrap_or o 0) c.inverse.ensures.value ∙ inverse_or_zero c.product-under.result
    ∙ ap reciprocal (c.product-under.ensures ∙ ap₂ mul c.scale-2.ensures (c.gaps-2.ensures ∙ all c.args.i c.args.i)))
