use Rattle.std.proofs.Common.{List, Bool, true, false, not, ◌&&◌, eqb, get_or, take, replicate, ap, ◌∙◌, arith}
use Rattle.std.proofs.lemmas.List.{get_or-replicate, get_or-take, length-take-le}
use Rattle.recovery.specs.Weights.{gaps}
use Rattle.interpolation.proofs.Products.{multiplied_same}
use Rattle.codes.proofs.cauchy.Cauchy.scale.Goals as goal

pub returns : goal.returns
returns c =
    let k = c.args.self.now.k in
    let x = c.args.x in
    let all : List Bool = replicate 12 true in
    c.gaps.ensures ∙ ap (λ n. gaps k n (λ j. get_or (take k all) j false) x x) (length-take-le k all (omega arith))
    ∙ multiplied_same _ _ _ k (λ j l. ap (λ b. b && not (eqb j x)) (get_or-take k all j false l ∙ get_or-replicate 12 j true false (omega arith)))
