use Rattle.std.proofs.Common.{◌/◌, ◌%◌, ◌<◌, ◌≢◌, length, get_or, ap, sym, ◌∙◌, arith, get_or-set_other, get_or-set_same, rules, below_more}
use Rattle.stripe.proofs.Hexes.{byte_of_digits, digits_at}
use Rattle.stripe.proofs.hex.read_block.Goals as goal

pub loop-j-preserved : goal.loop-j-preserved
loop-j-preserved c =
    let text = c.args.word.now in
    let chunks = c.as_chunks.ensures in
    let at = digits_at text _ c.as_chunks.result.0.now c.loop-j.j c.as_bytes-digits.ensures.value chunks.front chunks.front_len c.loop-j-test.true in (
      search rules,
      below_more _ _
          (λ k h. let ne : k ≢ c.loop-j.j = omega arith in rw get_or-set_other (c.loop-j.invariant.1 k h))
          (let lt : c.loop-j.j < length c.loop-j.block = omega (arith, chunks.front_len, c.if-digits.false, c.loop-j.invariant.0, c.loop-j-test.true) in
          rw get_or-set_same (byte_of_digits text c.loop-j.j _ _ c.in_ok-block.ensures.0 (sym at.0 ∙ c.in_ok-digit.ensures.1) (sym at.1 ∙ c.in_ok-block.ensures.1))),
    )

pub returns : goal.returns
returns c = (
  c.loop-j.invariant.0,
  record {
    long = omega (arith, c.loop-j.invariant.0, c.if-digits.false, ap length c.as_bytes-digits.ensures.value);
    each = λ j h. c.loop-j.invariant.1 j (omega (arith, h, c.loop-j.invariant.0, c.if-digits.false, c.as_chunks.ensures.front_len, c.loop-j-test.false));
  },
)

pub returns-in_err-digit : goal.returns-in_err-digit
returns-in_err-digit c =
    rw c.from_residual.ensures (λ b is writes.
    let j = c.loop-j.j in
    let chunks = c.as_chunks.ensures in
    let at = digits_at c.args.word.now _ c.as_chunks.result.0.now j c.as_bytes-digits.ensures.value chunks.front chunks.front_len c.loop-j-test.true in
    c.in_err-digit.ensures (get_or b j 0 / 16) (omega (arith, is.bytes j))
    (at.0 ∙ (writes.each j (omega (arith, is.size, chunks.front_len, c.if-digits.false, c.loop-j-test.true))).0))

pub returns-in_err-block : goal.returns-in_err-block
returns-in_err-block c =
    rw c.from_residual-in_err-block.ensures (λ b is writes.
    let j = c.loop-j.j in
    let chunks = c.as_chunks.ensures in
    let at = digits_at c.args.word.now _ c.as_chunks.result.0.now j c.as_bytes-digits.ensures.value chunks.front chunks.front_len c.loop-j-test.true in
    c.in_err-block.ensures (get_or b j 0 % 16) (omega arith)
    (at.1 ∙ (writes.each j (omega (arith, is.size, chunks.front_len, c.if-digits.false, c.loop-j-test.true))).1))
