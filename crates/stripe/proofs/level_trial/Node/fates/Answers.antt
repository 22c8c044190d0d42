use Rattle.std.proofs.Common.{List, ◌++◌, map, subst, sym, ap, ◌∙◌, rules, arith}
use Rattle.std.specs.List.{range_with_len}
use Rattle.std.proofs.lemmas.Result.{on_ok_weaker}
use Rattle.std.proofs.lemmas.Iterator.{YieldsList-from_range, YieldsList-from_map}
use Rattle.std.proofs.lemmas.Iterator.Adapters.{items_from_extend}
use Rattle.store.specs.Calls.{get_refusal}
use Rattle.stripe.specs.declared.level_report.Fate.{Fate}
use Rattle.stripe.specs.Seen.{fate_of, Fates}
use Rattle.stripe.proofs.Seen.{all_fates}
use Rattle.stripe.proofs.level_trial.Node.fates.Goals as goal

pub returns : goal.returns
returns g c = λ sound.
    let m = g.R.Reading.meaning c.args.self.now.level.now in
    let n = c.args.self.now.number in
    let k = c.args.places in
    let lost = c.args.self.now.lost in
    let all : List Fate = map (λ p. fate_of (get_refusal m 0 n p 64) lost) (range_with_len 0 k) in
    on_ok_weaker c.extend.result
    (λ w. subst (Fates m n lost k) (sym (w.0 ∙ ap (λ (v : List Fate). v ++ all) c.clear.ensures.items)) (all_fates m n lost k))
    (items_from_extend c.extend.result c.extend.ensures.ran
    (YieldsList-from_map _ (λ p. fate_of (get_refusal m 0 n p 64) lost) (YieldsList-from_range 0 k k (search rules) (omega arith))
    c.map.ensures.closure (λ x b q h. search rules)))
