use Rattle.std.proofs.Common.{true, length, ap, sym, refl, ◌∙◌}
use Rattle.std.proofs.lemmas.Slice.Eq.{slice_eq-Decides}
use Rattle.stripe.proofs.Seen.{came_back}
use Rattle.stripe.proofs.level_trial.Node.comes_back.Goals as goal
use Rattle.std.proofs.lemmas.Bool.Decides.{Decides-eqb}

pub returns-in-Ok : goal.returns-in-Ok
returns-in-Ok g c = λ sound.
    let written = c.args.written.now in
    let new = c.read_rank.new.file in
    let same = (slice_eq-Decides Decides-eqb new written true c.if-eq.ensures).0 refl in
    came_back (g.R.Reading.meaning c.args.self.now.level.now) c.args.self.now.number _ new written (c.in-Ok.ensures.answers sound)
    (sym c.read_rank.auto.file ∙ ap length same) same
