-- The powers of 2 and their logarithms. Assumes nothing.
use Rattle.std.proofs.Common.{◌≡◌, ℕ, zero, suc, ◌+◌, ◌*◌, ◌/◌, ◌%◌, ◌<◌, cond, eqb, ltb, sym, ap, ◌∙◌, subst, suc-add, div-add-mod', zero-add, zero-mul, arith, lit<, eqb→eq, ltb→lt}
use Rattle.field.specs.Field.{mul, carryless, reduced, power_of, doubled}
use Rattle.field.proofs.Computed.{below}
use Rattle.field.proofs.Laws.{mul_byte, mul_assoc, one_mul, mul_one}

doubled_mul : (a : ℕ) → a < 256 → doubled a ≡ mul 2 a
unfolding doubled mul reduced carryless
doubled_mul a h = eqb→eq _ _ (below (λ a. eqb (doubled a) (mul 2 a)) 256 tt a h)

pub power_byte : (i : ℕ) → power_of i < 256
unfolding power_of
power_byte zero = lit< tt
power_byte (suc i) = subst (λ x. x < 256) (sym (doubled_mul (power_of i) (power_byte i))) (mul_byte 2 (power_of i))

-- the rule of the table, in terms of the product
power_next : (i : ℕ) → power_of (suc i) ≡ mul 2 (power_of i)
unfolding power_of
power_next i = doubled_mul (power_of i) (power_byte i)

-- the rule carried to all products of powers
pub power_add : (i j : ℕ) → mul (power_of i) (power_of j) ≡ power_of (i + j)
unfolding power_of
power_add zero j = one_mul (power_of j) (power_byte j) ∙ ap power_of (sym (zero-add j))
power_add (suc i) j =
    ap (λ x. mul x (power_of j)) (power_next i) ∙ mul_assoc 2 (power_of i) (power_of j) ∙ ap (mul 2) (power_add i j)
    ∙ sym (power_next (i + j)) ∙ ap power_of (sym (suc-add i j))

power_around : (n : ℕ) → power_of (n + 255) ≡ power_of n
unfolding power_of doubled
power_around n = sym (power_add n 255) ∙ mul_one (power_of n) (power_byte n)

power_rounds : (q r : ℕ) → power_of (q * 255 + r) ≡ power_of r
power_rounds zero r = simp (zero-mul, zero-add)
power_rounds (suc q) r =
    let e : suc q * 255 + r ≡ (q * 255 + r) + 255 = omega arith in
    ap power_of e ∙ power_around (q * 255 + r) ∙ power_rounds q r

pub power_mod : (n : ℕ) → power_of (n % 255) ≡ power_of n
power_mod n = sym (power_rounds (n / 255) (n % 255)) ∙ ap power_of (div-add-mod' n 255)

-- the first number from i on whose power is a, where p is the power at i
log_from : ℕ → ℕ → ℕ → ℕ → ℕ
log_from zero i p a = 0
log_from (suc n) i p a = cond (eqb p a) i (log_from n (suc i) (doubled p) a)

unfoldable pub log_of : ℕ → ℕ
unfolding log_from
log_of a = log_from 255 0 1 a

pub log_below : (a : ℕ) → a < 256 → log_of a < 255
unfolding log_of doubled
log_below a h = ltb→lt _ _ (below (λ a. ltb (log_of a) 255) 256 tt a h)

pub power_log : (a : ℕ) → 0 < a → a < 256 → power_of (log_of a) ≡ a
unfolding log_of power_of doubled
power_log zero p h = absurd (omega arith)
power_log (suc a) p h = eqb→eq _ _ (below (λ a. eqb (power_of (log_of (suc a))) (suc a)) 255 tt a (omega arith))
