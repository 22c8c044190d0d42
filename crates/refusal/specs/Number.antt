-- The number of each refusal.
use Rattle.std.specs.Prelude.{ℕ}
use Rattle.refusal.specs.declared.kind.Refusal.{Refusal}
use Rattle.refusal.specs.declared.kind.Refusal.TheVariants.{Node, Place, Slot, Length, SlotNotEmpty, SlotNotOpen, Missing, SlotEmpty, Incomplete, NotAbove, DatasetOpen, SlotsInUse, OtherTicket, NotKept, NoneWhole, Sizes, TooFewBlocks, BlockNumber, Damaged}

abbrev pub number_of : Refusal → ℕ
number_of Node = 1
number_of Place = 2
number_of Slot = 3
number_of Length = 4
number_of SlotNotEmpty = 5
number_of SlotNotOpen = 6
number_of (Missing node place) = 7
number_of SlotEmpty = 8
number_of (Incomplete rank place) = 9
number_of NotAbove = 10
number_of DatasetOpen = 11
number_of SlotsInUse = 12
number_of OtherTicket = 13
number_of NotKept = 14
number_of NoneWhole = 15
number_of Sizes = 16
number_of TooFewBlocks = 17
number_of BlockNumber = 18
number_of (Damaged byte) = 19
