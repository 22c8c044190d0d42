use Rattle.std.proofs.Common.{◌≡◌, ◌≤◌, length}
use Rattle.std.specs.Iterator.Adapters.{filter_source, take_count, take_source}
use Rattle.bytewise.proofs.Steps.{MarksLeft}
use Rattle.bytewise.proofs.choose.Given as goal

abbrev pub invariant-loop-i : goal.invariant-loop-i
invariant-loop-i l = record {
  room : length l.chosen ≡ 16;
  few : length l.marks ≤ 16;
  left : MarksLeft l.marks l.k (take_count l.i-iterator) l.chosen (filter_source (take_source l.i-iterator));
}
