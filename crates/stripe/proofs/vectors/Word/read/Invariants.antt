use Rattle.std.proofs.Common.{◌≡◌, ◌*◌, vec_len}
use Rattle.stripe.proofs.vectors.Word.read.Given as goal

abbrev pub invariant-loop-word : goal.invariant-loop-word
invariant-loop-word l = vec_len l.blocks ≡ l.word-index * 64
