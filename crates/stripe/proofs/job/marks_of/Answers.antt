use Rattle.std.proofs.Common.{subst, sym, rules, arith}
use Rattle.std.proofs.lemmas.Result.{IfOk-weaker}
use Rattle.std.proofs.lemmas.Iterator.{items_from_collect, YieldsList-from_range, YieldsList-from_map}
use Rattle.stripe.specs.Lost.{mark, Marks}
use Rattle.stripe.proofs.Marking.{all_marked}
use Rattle.stripe.proofs.job.marks_of.Goals as goal

pub returns : goal.returns
returns c =
    let lost = c.args.lost.now in
    let n = c.args.n in
    IfOk-weaker c.collect.result _ _ (λ v is. subst (λ marks. Marks lost marks n) (sym is) (all_marked lost n))
    (items_from_collect c.collect.result c.collect.ensures.ran
    (YieldsList-from_map _ (mark lost) (YieldsList-from_range 0 n n (search rules) (omega arith)) c.map.ensures.closure (λ x b q k. search rules)))
