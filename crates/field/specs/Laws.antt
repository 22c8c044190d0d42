-- What makes the bytes a field under XOR and the product.
use Rattle.std.specs.Prelude.{◌≡◌, ℕ, ◌<◌, bit_xor}
use Rattle.field.specs.Field.{mul, reciprocal}

pub record FieldLaws : Type 0 where
  pub product_byte : (a b : ℕ) → mul a b < 256
  pub product_commutes : (a b : ℕ) → mul a b ≡ mul b a
  pub product_associates : (a b c : ℕ) → mul (mul a b) c ≡ mul a (mul b c)
  pub product_distributes : (a b c : ℕ) → mul a (bit_xor b c) ≡ bit_xor (mul a b) (mul a c)
  pub one_is_neutral : (a : ℕ) → a < 256 → mul a 1 ≡ a
  pub inverse_byte : (a : ℕ) → reciprocal a < 256
  pub inverse_inverts : (a : ℕ) → 0 < a → a < 256 → mul a (reciprocal a) ≡ 1
  pub inverse_only : (a b : ℕ) → 0 < a → a < 256 → b < 256 → mul a b ≡ 1 → b ≡ reciprocal a
  pub zero_has_none : (b : ℕ) → mul 0 b ≡ 0
