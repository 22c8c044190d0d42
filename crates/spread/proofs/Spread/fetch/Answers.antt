use Rattle.level.proofs.Reading.{block_told}
use Rattle.spread.proofs.Spread.fetch.Goals as goal

pub returns : goal.returns
returns g c = λ h slot.
    let x = c.args.self.now in
    block_told x.layout (g.S.Reading.meaning x.below) c.args.slot c.args.stripe c.args.number _ _ h.1.matches.fits slot c.requires.stripe c.requires.number
    c.locate.ensures c.unwrap-at.ensures c.args.out.now c.get.new.out c.get.result c.is_ok.result c.requires.size (c.get.ensures h.0) c.is_ok.ensures.value
