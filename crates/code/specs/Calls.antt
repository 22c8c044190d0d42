-- What each call of a code answers and writes.
use Rattle.std.specs.Prelude.{ℕ, ◌+◌, ◌*◌, Bool, cond, not, ◌||◌, List, length, take, drop, Some, None, Option, Result, ◌==◌, nat_le, nat_lt, slice_index}
use Rattle.refusal.specs.Answer.{refuse, Turns}
use Rattle.refusal.specs.declared.kind.Refusal.{Refusal}
use Rattle.refusal.specs.declared.kind.Refusal.TheVariants.{Length, TooFewBlocks, BlockNumber}
use Rattle.block.specs.Block.{Block, Held}
use Rattle.block.specs.Count.{count}
use Rattle.code.specs.Word.{Coding, lowest}

-- block i of blocks that lie one after the other
abbrev pub block_at : List ℕ → ℕ → Block
block_at bytes i = take 64 (drop (i * 64) bytes)

-- the first k of them are held
abbrev pub first : ℕ → List ℕ → Held
first k bytes i = cond (nat_lt i k) (Some (block_at bytes i)) None

-- a mark of 0 means missing, any other held
abbrev pub marks_held : List ℕ → ℕ → Bool
marks_held marks i = not (slice_index marks i == 0)

-- those whose marks say so are held
abbrev pub marked : List ℕ → List ℕ → Held
marked marks bytes i = cond (marks_held marks i) (Some (block_at bytes i)) None

-- check e of the given data, into a buffer: the lengths first, then the number
abbrev pub check_refusal : Coding → ℕ → ℕ → ℕ → Option Refusal
check_refusal c e given room =
    refuse (not (given == c.k * 64) || not (room == 64)) Length
    (refuse (nat_le c.m e) BlockNumber None)

-- it writes block k + e of the word of the data
abbrev pub Checks : Coding → ℕ → List ℕ → List ℕ → Result Unit Refusal → List ℕ → Type 0
Checks c e given old r new =
    Turns (check_refusal c e (length given) (length old)) old (c.whole (first c.k given) (c.k + e)) r new

-- rebuilding block i: the lengths first, then whether k blocks are held, then the number
abbrev pub rebuild_refusal : Coding → ℕ → List ℕ → ℕ → ℕ → Option Refusal
rebuild_refusal c i marks given room =
    refuse (not (length marks == c.k + c.m) || (not (given == (c.k + c.m) * 64) || not (room == 64))) Length
    (refuse (nat_lt (count (marks_held marks) (length marks)) c.k) TooFewBlocks
    (refuse (nat_le (c.k + c.m) i) BlockNumber None))

-- it writes block i of the word of the k held blocks with the lowest numbers
abbrev pub Rebuilds : Coding → ℕ → List ℕ → List ℕ → List ℕ → Result Unit Refusal → List ℕ → Type 0
Rebuilds c i marks bytes old r new =
    Turns (rebuild_refusal c i marks (length bytes) (length old)) old (c.whole (lowest c.k (marked marks bytes)) i) r new
