use Rattle.std.proofs.Common.{refl, rules}
use Rattle.level.proofs.Passing.{put_laid}
use Rattle.level.proofs.Sealing.{written_one}
use Rattle.spread.proofs.Spread.write_check.Goals as goal

pub returns : goal.returns
returns g c =
    let x = c.args.self.now in
    let K = g.C.Code.coding x.code in
    let S = g.S.Reading in
    let b = S.meaning x.below in
    let b' = S.meaning c.put.new.self in
    record {
      others = refl;
      sound = λ h. (c.put.ensures.sound h.0, put_laid x.layout K b b' (S.lawful x.below h.0) h.1 _ _ _ _ _ (c.put.ensures.means h.0));
      written = λ h r. written_one x.layout K.whole c.args.slot b b' c.args.node c.args.place c.requires (search rules);
    }
