-- The bytes but 0: they have inverses, which the product respects. Assumes nothing.
use Rattle.std.proofs.Common.{◌≡◌, ℕ, ◌<◌, sym, ap, ◌∙◌, arith}
use lib.Bits.{bit_xor, xor_assoc, xor_self, xor_zero_r, xor_lt}
use Rattle.field.specs.Field.{mul, reciprocal}
use Rattle.field.proofs.Laws.{mul_comm, mul_assoc, mul_byte, mul_one, one_mul, mul_zero, mul_left_comm}
use Rattle.field.proofs.Inverses.{mul_inverse, inverse_byte, inverse_only}

abbrev pub Nonzero : ℕ → Type 0
Nonzero a = (0 < a) × (a < 256)

pub inverts : (a : ℕ) → Nonzero a → mul a (reciprocal a) ≡ 1
inverts a h = mul_inverse a h.0 h.1

-- a factor taken back
pub undo : (a x : ℕ) → Nonzero a → x < 256 → mul (reciprocal a) (mul a x) ≡ x
undo a x h hx =
    sym (mul_assoc (reciprocal a) a x) ∙ ap (λ y. mul y x) (mul_comm (reciprocal a) a ∙ inverts a h) ∙ one_mul x hx

pub zero_factor : (a x : ℕ) → Nonzero a → x < 256 → mul a x ≡ 0 → x ≡ 0
zero_factor a x h hx e = sym (undo a x h hx) ∙ ap (mul (reciprocal a)) e ∙ mul_zero (reciprocal a)

pub mul_nonzero : (a b : ℕ) → Nonzero a → Nonzero b → Nonzero (mul a b)
mul_nonzero a b ha hb =
    let ne : mul a b ≡ 0 → ⊥ = λ e. omega (arith, zero_factor a b ha hb.1 e, hb.0) in
    (omega arith, mul_byte a b)

pub reciprocal_mul : (a b : ℕ) → Nonzero a → Nonzero b → reciprocal (mul a b) ≡ mul (reciprocal a) (reciprocal b)
reciprocal_mul a b ha hb =
    let p = mul_nonzero a b ha hb in
    sym (inverse_only (mul a b) (mul (reciprocal a) (reciprocal b)) p.0 p.1 (mul_byte _ _)
    (mul_assoc a b _ ∙ ap (mul a) (mul_left_comm b (reciprocal a) (reciprocal b) ∙ ap (mul (reciprocal a)) (inverts b hb) ∙ mul_one _ (inverse_byte a))
    ∙ inverts a ha))

pub quotient : (a b : ℕ) → Nonzero a → Nonzero (mul a b) → mul (reciprocal (mul a b)) b ≡ reciprocal a
quotient a b ha h =
    sym (mul_one _ (mul_byte (reciprocal (mul a b)) b)) ∙ mul_assoc (reciprocal (mul a b)) b 1
    ∙ ap (mul (reciprocal (mul a b))) (ap (mul b) (sym (inverts a ha)) ∙ sym (mul_assoc b a (reciprocal a)) ∙ ap (λ x. mul x (reciprocal a)) (mul_comm b a))
    ∙ undo (mul a b) (reciprocal a) h (inverse_byte a)

-- a sum taken back
pub xor_back : (a b : ℕ) → bit_xor a (bit_xor a b) ≡ b
xor_back a b = sym (xor_assoc a a b) ∙ ap (λ x. bit_xor x b) (xor_self a)

pub xor_equal : (a b : ℕ) → bit_xor a b ≡ 0 → a ≡ b
xor_equal a b e = sym (xor_zero_r a) ∙ ap (bit_xor a) (sym e) ∙ xor_back a b

pub xor_nonzero : (a b : ℕ) → a < 256 → b < 256 → (a ≡ b → ⊥) → Nonzero (bit_xor a b)
xor_nonzero a b ha hb o =
    let ne : bit_xor a b ≡ 0 → ⊥ = λ z. o (xor_equal a b z) in
    (omega arith, xor_lt 8 a b ha hb)
