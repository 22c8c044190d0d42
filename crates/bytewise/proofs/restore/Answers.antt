use Rattle.std.proofs.Common.{false, ◌&&◌, ltb, length, take, rules, ap, ◌∙◌, arith}
use Rattle.std.proofs.lemmas.List.{get_or-take}
use Rattle.block.specs.Count.{count}
use Rattle.code.specs.Calls.{marks_held}
use Rattle.bytewise.proofs.Written.{rebuild_written}
use Rattle.bytewise.proofs.restore.Goals as goal

pub returns : goal.returns
returns g c =
    let marks = c.args.marks.now in
    let n = length marks in
    let chosen = c.choose-chosen.result in
    rebuild_written (g.B.Bytewise.recipe c.args.code.now) marks c.args.blocks.now (take n chosen) c.requires.long.0 (search rules)
    (λ i l. get_or-take n chosen i false (omega arith) ∙ c.choose-chosen.ensures i ∙ ap (λ k. marks_held marks i && ltb (count (marks_held marks) i) k) c.data.ensures)
    c.args.wanted c.sum_chosen.new.out (omega arith) c.sum_chosen.ensures
