use Rattle.std.proofs.Common.{◌≡◌, rules}
use Rattle.std.proofs.lemmas.Result.{err_from_is_err_and}
use Rattle.store.specs.declared.kinds.State.TheVariants.{Open}
use Rattle.level.specs.Checks.{Ready}
use Rattle.level.proofs.Sealed.{state_open, seal_stopped, SealedWell, sealed_well}
use Rattle.level.proofs.Words.{at_layout}
use Rattle.spread.specs.Writing.{Sound}
use Rattle.spread.proofs.SpreadStore.seal.Given.{Over}
use Rattle.spread.proofs.SpreadStore.seal.Goals as goal
use Rattle.spread.proofs.SpreadStore.seal.Goals.{After-seal}

pub returns-in_err-collect-clause-means : goal.returns-in_err-collect-clause-means
returns-in_err-collect-clause-means g c = λ h.
    let x = c.args.self.now in
    let b = g.S.Reading.meaning x.below in
    let o : c.in_ok-state.field-0 ≡ Open = search rules in
    let u = state_open b c.args.slot c.in_ok-state.field-0 (c.in_ok-state.ensures h.0) o in
    let r = err_from_is_err_and c.from_residual-in_err-collect.result c.from_residual-in_err-collect.ensures.1 in
    rw (r.1, r.2)
    (seal_stopped x.layout (g.C.Code.coding x.code) b (g.S.Reading.lawful x.below h.0) h.1.matches.fits c.args.slot u c.in_err-collect.field-0.0 (c.in_err-collect.ensures h u.slot))

-- what comes of the seal beneath
done : (g : Over) (c : After-seal g)
    → Sound g.C.Code.coding g.S.Reading.sound g.S.Reading.meaning c.args.self.now
    → SealedWell c.args.self.now.layout (g.C.Code.coding c.args.self.now.code) (g.S.Reading.meaning c.args.self.now.below) (g.S.Reading.meaning c.seal.new.self) c.args.slot c.seal.result
done g c h =
    let x = c.args.self.now in
    let l = x.layout in
    let K = g.C.Code.coding x.code in
    let S = g.S.Reading in
    let b = S.meaning x.below in
    let t = c.args.slot in
    let bytes = c.collect.new.bytes in
    let o : c.in_ok-state.field-0 ≡ Open = search rules in
    let u = state_open b t c.in_ok-state.field-0 (c.in_ok-state.ensures h.0) o in
    let ready : Ready l b t bytes = record { unsealed = u; read = c.in_ok-collect.ensures h u.slot } in
    sealed_well l K (at_layout l K b.shape h.1.matches (g.C.Code.completes x.code) (g.C.Code.determines x.code)) b (S.meaning c.write_checks.new.self.below) (S.meaning c.seal.new.self)
    (S.lawful x.below h.0) h.1 t bytes ready (c.write_checks.ensures.written h ready) c.seal.result (c.seal.ensures.means ((c.write_checks.ensures.sound h).0))

pub returns-clause-sound : goal.returns-clause-sound
returns-clause-sound g c = λ h. (c.seal.ensures.sound ((c.write_checks.ensures.sound h).0), rw c.write_checks.ensures.others (done g (goal.at.returns-clause-sound g c).After-seal h).laid)

pub returns-clause-means : goal.returns-clause-means
returns-clause-means g c = λ h. rw c.write_checks.ensures.others (done g (goal.at.returns-clause-means g c).After-seal h).means

pub returns-clause-untouched : goal.returns-clause-untouched
returns-clause-untouched g c = λ s a. rw (done g (goal.at.returns-clause-untouched g c).After-seal (s, a)).accepted tt
