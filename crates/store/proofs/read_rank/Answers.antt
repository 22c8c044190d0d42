use Rattle.std.proofs.Common.{length}
use Rattle.store.specs.Rank.{Reads}
use Rattle.store.proofs.Rank.{rank_answered}
use Rattle.store.proofs.read_rank.Goals as goal

pub returns-clause-answers : goal.returns-clause-answers
returns-clause-answers g c =
    λ sound.
    let m = g.R.Reading.meaning c.args.source.now in
    let shape = c.shape-shape.ensures sound in
    let reads : Reads m c.args.slot c.args.rank (length c.args.file.now) = record {
      slot = rw (← shape) c.if-slot-shape.false;
      node = rw (← shape) c.if-rank-shape.false;
      room = rw (← shape) c.if-file-shape.false;
    } in
    rank_answered m c.args.slot c.args.rank c.args.file.now reads c.gather_by.result c.gather_by.new.file
    c.gather_by.auto.file c.gather_by.ensures.kept (c.gather_by.ensures.ends sound reads)
