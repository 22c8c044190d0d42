use Rattle.std.proofs.Common.{◌≡◌, length, get_or, rules}
use Rattle.words.proofs.Decimals.{reads_decimal, no_plus, no_zero, some_first}
use Rattle.words.proofs.read_number.Goals as goal
use Rattle.words.proofs.read_number.Goals.{else-digits-gt0-via-then-digits-gt0+else-digits-eq43, else-digits-gt0-via-else-digits-gt0, else-digits-gt1-via-then-digits-gt1+else-digits-eq48, else-digits-gt1-via-else-digits-gt1}

plus : (c : goal.After-ok) → get_or c.args.word.now 0 0 ≡ 43 → ⊥
plus c =
    elim c.else-digits-gt0.branch [
      | else-digits-gt0-via-then-digits-gt0+else-digits-eq43 w ↦ search rules
      | else-digits-gt0-via-else-digits-gt0 w ↦ search (rules, some_first c.args.word.now 43)
    ]

zeros : (c : goal.After-ok) → get_or c.args.word.now 0 0 ≡ 48 → length c.args.word.now ≡ 1
zeros c =
    elim c.else-digits-gt1.branch [
      | else-digits-gt1-via-then-digits-gt1+else-digits-eq48 w ↦ search rules
      | else-digits-gt1-via-else-digits-gt1 w ↦ search (rules, some_first c.args.word.now 48)
    ]

pub returns : goal.returns
returns c =
    rw c.ok.ensures.value (reads_decimal _ c.args.word.now c.parse.result c.parse.ensures.value.0 (plus c) (zeros c))

pub returns-then-digits-eq48 : goal.returns-then-digits-eq48
returns-then-digits-eq48 c = λ n small same. search (rules, no_zero c.args.word.now n small)

pub returns-then-digits-eq43 : goal.returns-then-digits-eq43
returns-then-digits-eq43 c = λ n small same. search (rules, no_plus c.args.word.now n small)
