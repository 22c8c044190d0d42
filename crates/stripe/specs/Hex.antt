-- Bytes as lower-case hex digits.
use Rattle.std.specs.Prelude.{◌≡◌, ℕ, ◌+◌, ◌*◌, ◌/◌, ◌%◌, ◌<◌, cond, List, length, nat_lt, slice_index}

-- the character of a digit: 0 to 9, then a to f
abbrev pub hex : ℕ → ℕ
hex d = cond (nat_lt d 10) (48 + d) (87 + d)

-- the text writes the byte at place j by two digits, the high one first
abbrev pub WritesByte : List ℕ → ℕ → ℕ → Type 0
WritesByte text j b = (slice_index text (2 * j) ≡ hex (b / 16)) × (slice_index text (2 * j + 1) ≡ hex (b % 16))

-- the text writes the bytes, and nothing more
pub record Writes (text bytes : List ℕ) : Type 0 where
  pub long : length text ≡ 2 * length bytes
  pub each : (j : ℕ) → j < length bytes → WritesByte text j (slice_index bytes j)
