use Rattle.std.proofs.Common.{◌*◌}
use Rattle.stripe_map.proofs.Found.{not_beyond}
use Rattle.level.proofs.Passing.{put_laid, put_means}
use Rattle.spread.proofs.SpreadStore.put.Goals as goal

pub returns-clause-sound : goal.returns-clause-sound
returns-clause-sound g c = λ h.
    let x = c.args.self.now in
    let S = g.S.Reading in
    (c.put.ensures.sound h.0, put_laid x.layout (g.C.Code.coding x.code) (S.meaning x.below) (S.meaning c.put.new.self) (S.lawful x.below h.0) h.1 _ _ _ _ _ (c.put.ensures.means h.0))

pub returns-clause-means : goal.returns-clause-means
returns-clause-means g c = λ h.
    let x = c.args.self.now in
    let l = x.layout in
    let S = g.S.Reading in
    let own = not_beyond l.nodes (l.k * l.lanes) c.args.node c.args.place _ _ c.in_ok-refuse_beyond.ensures in
    put_means l (g.C.Code.coding x.code) (S.meaning x.below) (S.meaning c.put.new.self) (S.lawful x.below h.0) h.1 c.put.result c.args.slot c.args.node c.args.place c.args.block.now
    own.0 own.1 (c.put.ensures.means h.0)
