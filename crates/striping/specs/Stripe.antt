-- Stripes: the blocks of a word, one after the other, and what comes back of a file that is cut into them.
use Rattle.std.specs.Prelude.{◌≡◌, ℕ, ◌+◌, ◌*◌, ◌<◌, true, not, ◌||◌, List, length, Some, None, Option, ◌==◌, nat_lt}
use Rattle.refusal.specs.Answer.{refuse}
use Rattle.refusal.specs.declared.kind.Refusal.{Refusal}
use Rattle.refusal.specs.declared.kind.Refusal.TheVariants.{Length, TooFewBlocks}
use Rattle.block.specs.Block.{Blocks}
use Rattle.block.specs.Count.{count}
use Rattle.code.specs.Word.{Coding}
use Rattle.code.specs.Calls.{block_at, marks_held}
use Rattle.striping.specs.declared.failure.Failure.{Failure}
use Rattle.striping.specs.declared.failure.Failure.TheVariants.{Refused, Memory}

-- the first n blocks are those of w
abbrev pub Stores : ℕ → List ℕ → Blocks → Type 0
Stores n stripe w = (i : ℕ) → i < n → block_at stripe i ≡ w i

-- of the first n blocks, those that the marks leave are those of w
abbrev pub Leaves : List ℕ → ℕ → List ℕ → Blocks → Type 0
Leaves marks n stripe w = (i : ℕ) → i < n → marks_held marks i ≡ true → block_at stripe i ≡ w i

-- the word of some data is laid into a stripe: the lengths have to be right
abbrev pub protect_refusal : Coding → ℕ → ℕ → Option Refusal
protect_refusal c given stripe = refuse (not (given == c.k * 64) || not (stripe == (c.k + c.m) * 64)) Length None

-- a stripe is repaired: the lengths have to be right, and k blocks held
abbrev pub repair_refusal : Coding → List ℕ → ℕ → Option Refusal
repair_refusal c marks stripe =
    refuse (not (length marks == c.k + c.m) || not (stripe == (c.k + c.m) * 64)) Length
    (refuse (nat_lt (count (marks_held marks) (length marks)) c.k) TooFewBlocks None)

-- then it is the word of which the marks leave these blocks, if there is one
abbrev pub Repaired : Coding → List ℕ → List ℕ → List ℕ → Type 0
Repaired c marks was is = (w : Blocks) → c.Word w → Leaves marks (c.k + c.m) was w → Stores (c.k + c.m) is w

-- a file is carried: a mark for each block of a stripe, and enough of them held
abbrev pub survive_refusal : Coding → List ℕ → Option Refusal
survive_refusal c marks =
    refuse (not (length marks == c.k + c.m)) Length
    (refuse (nat_lt (count (marks_held marks) (length marks)) c.k) TooFewBlocks None)

-- what a failure says: the refusal that the marks meet, or that there was no memory and no refusal
abbrev pub Fails : Coding → List ℕ → Failure → Type 0
Fails c marks (Refused f) = survive_refusal c marks ≡ Some f
Fails c marks Memory = survive_refusal c marks ≡ None
