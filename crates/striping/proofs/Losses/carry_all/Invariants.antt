use Rattle.std.proofs.Common.{◌≡◌, ◌*◌, ◌++◌, vec_items}
use Rattle.std.specs.Slice.Iter.{chunks_rest, chunks_size}
use Rattle.striping.proofs.Losses.carry_all.Given as goal

abbrev pub invariant-loop-part : goal.invariant-loop-part
invariant-loop-part g l = record {
  size : chunks_size l.part-iterator ≡ (g.C.Code.coding l.self.code.now).k * 64;
  whole : vec_items l.out ++ chunks_rest l.part-iterator ≡ l.file;
}
