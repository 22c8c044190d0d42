use Rattle.std.proofs.Common.{◌≡◌, ◌<◌, length}
use Rattle.store.specs.Calls.{cells_of}
use Rattle.level.specs.Checks.{Collected, CollectedTo}
use Rattle.spread.specs.Writing.{Sound}
use Rattle.spread.proofs.Spread.collect_node.Given as goal

abbrev pub invariant-loop-place : goal.invariant-loop-place
invariant-loop-place g l =
    let m = g.S.Reading.meaning l.self.below in
    (length l.bytes ≡ 262144)
    × (Sound g.C.Code.coding g.S.Reading.sound g.S.Reading.meaning l.self → l.slot < m.shape.slots
    → Collected l.self.layout (cells_of (m.slot l.slot)) l.node l.fn.bytes
    → CollectedTo l.self.layout (cells_of (m.slot l.slot)) l.node l.place-counter l.bytes)
