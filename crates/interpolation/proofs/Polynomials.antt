-- Polynomial functions, and how they are made. Assumes nothing.
use Rattle.std.proofs.Common.{◌≡◌, ℕ, zero, suc, ◌<◌, Bool, true, false, cond, sym, refl, ap, ◌∙◌, subst, ap₂, arith, lit<}
use lib.Bits.{bit_xor, xor_assoc, xor_comm, xor_zero_r, xor_lt}
use Rattle.block.specs.Count.{count}
use Rattle.field.specs.Field.{mul}
use Rattle.field.specs.Sums.{summed, multiplied}
use Rattle.field.proofs.Laws.{mul_comm, mul_byte, mul_zero, zero_mul, mul_left_comm}
use Rattle.field.proofs.Linear.{mul_xor_left, mul_xor_right, xor_swap}
use Rattle.recovery.proofs.Nonzero.{xor_back}

-- f x is f a plus (x + a) times the value of g
abbrev Divided : (ℕ → ℕ) → ℕ → (ℕ → ℕ) → Type 0
Divided f a g = (x : ℕ) → f x ≡ bit_xor (f a) (mul (bit_xor x a) (g x))

-- a polynomial of degree below n: its values are bytes, and divided by x + a, for any a, it leaves its value at a
abbrev pub Polynomial : ℕ → (ℕ → ℕ) → Type 0
Polynomial zero f = (x : ℕ) → f x ≡ 0
Polynomial (suc n) f = ((x : ℕ) → f x < 256) × ((a : ℕ) → (g : ℕ → ℕ) × Polynomial n g × Divided f a g)

pub polynomial_byte : (n : ℕ) (f : ℕ → ℕ) → Polynomial n f → (x : ℕ) → f x < 256
polynomial_byte zero f p x = subst (λ y. y < 256) (sym (p x)) (lit< tt)
polynomial_byte (suc n) f p x = p.0 x

constant_divided : (f : ℕ → ℕ) (a c : ℕ) → ((x : ℕ) → f x ≡ c) → Divided f a (λ x. 0)
constant_divided f a c h x = h x ∙ sym (ap₂ bit_xor (h a) (mul_zero (bit_xor x a)) ∙ xor_zero_r c)

polynomial_constant : (f : ℕ → ℕ) (c : ℕ) → c < 256 → ((x : ℕ) → f x ≡ c) → Polynomial 1 f
polynomial_constant f c l h = ((λ x. subst (λ y. y < 256) (sym (h x)) l), (λ a. ((λ x. 0), (λ x. refl), constant_divided f a c h)))

polynomial_zero : (n : ℕ) → Polynomial n (λ x. 0)
polynomial_zero zero = λ x. refl
polynomial_zero (suc n) = ((λ x. lit< tt), (λ a. ((λ x. 0), polynomial_zero n, constant_divided (λ x. 0) a 0 (λ x. refl))))

polynomial_wider : (n : ℕ) (f : ℕ → ℕ) → Polynomial n f → Polynomial (suc n) f
polynomial_wider zero f p = polynomial_constant f 0 (lit< tt) p
polynomial_wider (suc n) f p = (p.0, (λ a. let q = p.1 a in (q.0, polynomial_wider n q.0 q.1, q.2)))

pub polynomial_sum : (n : ℕ) (f h : ℕ → ℕ) → Polynomial n f → Polynomial n h → Polynomial n (λ x. bit_xor (f x) (h x))
polynomial_sum zero f h p q = λ x. ap₂ bit_xor (p x) (q x)
polynomial_sum (suc n) f h p q = (
  (λ x. xor_lt 8 (f x) (h x) (p.0 x) (q.0 x)),
  (λ a. let r = p.1 a in let s = q.1 a in (
    (λ x. bit_xor (r.0 x) (s.0 x)),
    polynomial_sum n r.0 s.0 r.1 s.1,
    (λ x. ap₂ bit_xor (r.2 x) (s.2 x) ∙ xor_swap (f a) _ (h a) _ ∙ ap (bit_xor (bit_xor (f a) (h a))) (sym (mul_xor_right (bit_xor x a) _ _))),
  )),
)

pub polynomial_times : (n c : ℕ) (f : ℕ → ℕ) → Polynomial n f → Polynomial n (λ x. mul c (f x))
polynomial_times zero c f p = λ x. ap (mul c) (p x) ∙ mul_zero c
polynomial_times (suc n) c f p = (
  (λ x. mul_byte c (f x)),
  (λ a. let r = p.1 a in (
    (λ x. mul c (r.0 x)),
    polynomial_times n c r.0 r.1,
    (λ x. ap (mul c) (r.2 x) ∙ mul_xor_right c (f a) _ ∙ ap (bit_xor (mul c (f a))) (mul_left_comm c (bit_xor x a) (r.0 x))),
  )),
)

-- times x + b, which is (x + a) + (a + b)
polynomial_factor : (n b : ℕ) (f : ℕ → ℕ) → Polynomial n f → Polynomial (suc n) (λ x. mul (f x) (bit_xor x b))
polynomial_factor zero b f p =
    polynomial_constant (λ x. mul (f x) (bit_xor x b)) 0 (lit< tt) (λ x. ap (λ y. mul y (bit_xor x b)) (p x) ∙ zero_mul (bit_xor x b))
polynomial_factor (suc n) b f p = (
  (λ x. mul_byte (f x) (bit_xor x b)),
  (λ a. let r = p.1 a in (
    (λ x. bit_xor (f x) (mul (bit_xor a b) (r.0 x))),
    polynomial_sum (suc n) f (λ x. mul (bit_xor a b) (r.0 x)) p (polynomial_wider n _ (polynomial_times n (bit_xor a b) r.0 r.1)),
    (λ x. product a x (r.0 x) (r.2 x)),
  )),
)
  where
    apart : (x a : ℕ) → bit_xor x b ≡ bit_xor (bit_xor x a) (bit_xor a b)
    apart x a = sym (xor_assoc x a (bit_xor a b) ∙ ap (bit_xor x) (xor_back a b))

    product : (a x y : ℕ) → f x ≡ bit_xor (f a) (mul (bit_xor x a) y)
        → mul (f x) (bit_xor x b) ≡ bit_xor (mul (f a) (bit_xor a b)) (mul (bit_xor x a) (bit_xor (f x) (mul (bit_xor a b) y)))
    product a x y e =
        let u = bit_xor x a in
        let w = bit_xor a b in
        ap (mul (f x)) (apart x a) ∙ mul_xor_right (f x) u w ∙ xor_comm (mul (f x) u) (mul (f x) w)
        ∙ ap₂ bit_xor (ap (λ z. mul z w) e ∙ mul_xor_left (f a) (mul u y) w) (mul_comm (f x) u)
        ∙ xor_assoc (mul (f a) w) (mul (mul u y) w) (mul u (f x))
        ∙ ap (bit_xor (mul (f a) w))
        (xor_comm (mul (mul u y) w) (mul u (f x)) ∙ ap (bit_xor (mul u (f x))) (mul_comm (mul u y) w ∙ mul_left_comm w u y)
        ∙ sym (mul_xor_right u (f x) (mul w y)))

pub polynomial_summed : (d : ℕ) (chosen : ℕ → Bool) (f : ℕ → ℕ → ℕ) (n : ℕ) → ((i : ℕ) → i < n → chosen i ≡ true → Polynomial d (λ x. f x i))
    → Polynomial d (λ x. summed chosen (f x) n)
unfolding summed
polynomial_summed d chosen f zero h = polynomial_zero d
polynomial_summed d chosen f (suc n) h =
    let below : Polynomial d (λ x. summed chosen (f x) n) = polynomial_summed d chosen f n (λ i l. h i (omega arith)) in
    (elim (chosen n) as (λ b. (b ≡ true → Polynomial d (λ x. f x n)) → Polynomial d (λ x. cond b (bit_xor (summed chosen (f x) n) (f x n)) (summed chosen (f x) n)))
    [ true ↦ λ k. polynomial_sum d _ _ below (k refl) | false ↦ λ k. below ]) (h n (omega arith))

pub polynomial_multiplied : (chosen : ℕ → Bool) (point : ℕ → ℕ) (n : ℕ)
    → Polynomial (suc (count chosen n)) (λ x. multiplied chosen (λ j. bit_xor x (point j)) n)
unfolding multiplied
polynomial_multiplied chosen point zero = polynomial_constant (λ x. 1) 1 (lit< tt) (λ x. refl)
polynomial_multiplied chosen point (suc n) =
    let below : Polynomial (suc (count chosen n)) (λ x. multiplied chosen (λ j. bit_xor x (point j)) n) = polynomial_multiplied chosen point n in
    elim (chosen n) as (λ b. Polynomial (suc (cond b (suc (count chosen n)) (count chosen n)))
    (λ x. cond b (mul (multiplied chosen (λ j. bit_xor x (point j)) n) (bit_xor x (point n))) (multiplied chosen (λ j. bit_xor x (point j)) n)))
    [ true ↦ polynomial_factor (suc (count chosen n)) (point n) _ below | false ↦ below ]
