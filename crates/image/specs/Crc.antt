-- The CRC-32 of bytes: IEEE, reflected, bit by bit.
use Rattle.std.specs.Prelude.{ℕ, zero, suc, ◌/◌, ◌%◌, cond, List, length, ◌==◌, bit_xor, slice_index}

-- the rest one bit further: half of it, and the polynomial where a bit falls out
abbrev pub shifted : ℕ → ℕ
shifted x = cond (x % 2 == 1) (bit_xor (x / 2) 3988292384) (x / 2)

-- so many bits further
abbrev pub shifts : ℕ → ℕ → ℕ
shifts x zero = x
shifts x (suc n) = shifted (shifts x n)

-- one byte further
abbrev pub taken : ℕ → ℕ → ℕ
taken x byte = shifts (bit_xor x byte) 8

-- the rest after the first k bytes: it starts with all bits set
abbrev pub rest : List ℕ → ℕ → ℕ
rest bytes zero = 4294967295
rest bytes (suc k) = taken (rest bytes k) (slice_index bytes k)

-- the last rest with every bit turned
abbrev pub crc : List ℕ → ℕ
crc bytes = bit_xor (rest bytes (length bytes)) 4294967295
