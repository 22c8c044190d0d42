use Rattle.std.proofs.Common.{◌≡◌, ◌<◌, None}
use Rattle.refusal.specs.Answer.{first}
use Rattle.store.specs.Calls.{cells_of, absent_at}
use Rattle.level.specs.Level.{level_shape}
use Rattle.level.specs.Checks.{Collected}
use Rattle.spread.specs.Writing.{Sound}
use Rattle.spread.proofs.Spread.collect.Given as goal

abbrev pub invariant-loop-node : goal.invariant-loop-node
invariant-loop-node g l =
    let m = g.S.Reading.meaning l.self.below in
    Sound g.C.Code.coding g.S.Reading.sound g.S.Reading.meaning l.self → l.slot < m.shape.slots
    → Collected l.self.layout (cells_of (m.slot l.slot)) l.node l.bytes
    × (first (absent_at (level_shape l.self.layout m.shape) (cells_of (m.slot l.slot))) l.node ≡ None)
