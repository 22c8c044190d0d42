-- The field of 256 elements: its elements are bytes, and its sum is XOR.
use Rattle.std.specs.Prelude.{ℕ, zero, suc, ◌+◌, ◌*◌, ◌/◌, ◌%◌, ◌^◌, cond, ◌==◌, bit_xor, nat_lt}

-- the product of two bit polynomials, b of n bits: bit 0 of b times a, plus x times the product of a with the rest of b
unfoldable pub carryless : ℕ → ℕ → ℕ → ℕ
carryless zero a b = 0
carryless (suc n) a b = bit_xor (b % 2 * a) (carryless n a (b / 2) * 2)

-- the remainder of a bit polynomial of 8 + n bits by x^8 + x^4 + x^3 + x^2 + 1, which is the number 285: each bit from the
-- highest down to bit 8 that is set is taken away by adding the divisor under it
unfoldable pub reduced : ℕ → ℕ → ℕ
reduced zero p = p
reduced (suc i) p = reduced i (bit_xor p (p / 2 ^ (8 + i) % 2 * (285 * 2 ^ i)))

-- the product of two bytes; of larger numbers the low bytes count
unfoldable pub mul : ℕ → ℕ → ℕ
mul a b = reduced 7 (carryless 8 (a % 256) (b % 256))

-- the rule of the power table: twice the number, XORed with 285 if that exceeds 255
unfoldable pub doubled : ℕ → ℕ
doubled a = cond (nat_lt 255 (2 * a)) (bit_xor (2 * a) 285) (2 * a)

-- the powers of 2
unfoldable pub power_of : ℕ → ℕ
power_of zero = 1
power_of (suc i) = doubled (power_of i)

-- the largest number below n whose product with a is 1, or 0 if there is none
unfoldable pub partner : ℕ → ℕ → ℕ
partner zero a = 0
partner (suc n) a = cond (mul a n == 1) n (partner n a)

-- the inverse of a byte, the byte whose product with it is 1; and 0 for 0, which has none
unfoldable pub reciprocal : ℕ → ℕ
reciprocal a = partner 256 a
