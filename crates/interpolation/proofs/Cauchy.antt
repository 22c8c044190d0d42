-- The words of the Cauchy code are the values of polynomials, scaled, so its weights give them back. Assumes nothing.
use Rattle.std.proofs.Common.{◌≡◌, ℕ, ◌+◌, ◌-◌, ◌<◌, ◌≤◌, Bool, sym, refl, ap, ◌∙◌, subst, ⊎_elim, arith}
use Rattle.std.proofs.lemmas.Bool.{cases_lt}
use Rattle.block.specs.Count.{count}
use Rattle.block.proofs.Counts.{count_all}
use Rattle.field.specs.Field.{mul, reciprocal}
use Rattle.field.proofs.Laws.{mul_comm, mul_assoc, mul_byte, mul_left_comm}
use Rattle.recovery.specs.Recovers.{ByteWord, Recovers, recovered}
use Rattle.recovery.specs.Rules.{every, coefficient, cauchy_rule}
use Rattle.recovery.specs.Weights.{point, gaps, cauchy_weight}
use Rattle.recovery.proofs.Nonzero.{undo, reciprocal_mul}
use Rattle.recovery.proofs.Sums.{summed_same, summed_times}
use Rattle.interpolation.proofs.Polynomials.{Polynomial, polynomial_byte}
use Rattle.interpolation.proofs.Lagrange.{others_nonzero, through, through_same, through_polynomial, through_at, through_own}
use Rattle.interpolation.proofs.Points.{scale, points, data_points, scale_nonzero, scale_over}

-- the byte that a polynomial gives block c
abbrev share : ℕ → (ℕ → ℕ) → ℕ → ℕ
share k f c = mul (reciprocal (scale k c)) (f (point k c))

module _ (k m : ℕ) (hk : k ≤ 12) (hm : m ≤ 4) where
  -- the bytes that a polynomial of degree below k gives obey the rule
  shares_obey : (f : ℕ → ℕ) → Polynomial k f → (e : ℕ) → e < m → share k f (k + e) ≡ cauchy_rule k e (share k f)
  shares_obey f p e he =
      let s = reciprocal (scale k (k + e)) in
      ap (mul s) (through_own every (point k) k (data_points k m hk hm) f (subst (λ n. Polynomial n f) (sym (count_all k)) p) (point k (k + e)))
      ∙ sym (summed_times every s _ k)
      ∙ summed_same every _ _ k (λ d hd t.
      let v = f (point k d) in
      let r = reciprocal (scale k d) in
      let g = gaps k k every (k + e) d in
      mul_left_comm s v (mul r g) ∙ ap (mul v) (mul_left_comm s r g ∙ ap (mul r) (scale_over k m hk hm e d he hd)) ∙ mul_left_comm v r (coefficient e d)
      ∙ sym (mul_assoc r v (coefficient e d)))

  -- a byte, scaled and unscaled
  unscaled : (c x : ℕ) → c < k + m → x < 256 → mul (reciprocal (scale k c)) (mul x (scale k c)) ≡ x
  unscaled c x h hx = ap (mul (reciprocal (scale k c))) (mul_comm x (scale k c)) ∙ undo (scale k c) x (scale_nonzero k m hk hm c h) hx

  -- a word's polynomial, through its data
  abbrev of_word : (ℕ → ℕ) → ℕ → ℕ
  of_word w = through every (point k) k (λ d. mul (w d) (scale k d))

  of_word_polynomial : (w : ℕ → ℕ) → Polynomial k (of_word w)
  of_word_polynomial w = subst (λ n. Polynomial n (of_word w)) (count_all k) (through_polynomial every (point k) k (data_points k m hk hm) (λ d. mul (w d) (scale k d)))

  word_shares : (w : ℕ → ℕ) → ByteWord k m (cauchy_rule k) w → (c : ℕ) → c < k + m → share k (of_word w) c ≡ w c
  word_shares w h c hc =
      let of_data : (d : ℕ) → d < k → share k (of_word w) d ≡ w d =
      λ d hd. ap (mul (reciprocal (scale k d))) (through_at every (point k) k (data_points k m hk hm) (λ j. mul (w j) (scale k j)) d hd refl (mul_byte (w d) (scale k d)))
      ∙ unscaled d (w d) (omega arith) (h.bytes d (omega arith)) in
      ⊎_elim (of_data c)
      (λ (l : k ≤ c). let q : c ≡ k + (c - k) = omega arith in
      ap (share k (of_word w)) q ∙ shares_obey (of_word w) (of_word_polynomial w) (c - k) (omega arith)
      ∙ summed_same every _ _ k (λ d hd t. ap (λ x. mul x (coefficient (c - k) d)) (of_data d hd))
      ∙ sym (ap w q ∙ h.checks (c - k) (omega arith)))
      (cases_lt c k)

  module _ (chosen : ℕ → Bool) (n : count chosen (k + m) ≡ k) where
    -- the polynomial through the chosen bytes
    abbrev of_chosen : (ℕ → ℕ) → ℕ → ℕ
    of_chosen v = through chosen (point k) (k + m) (λ i. mul (v i) (scale k i))

    of_chosen_polynomial : (v : ℕ → ℕ) → Polynomial k (of_chosen v)
    of_chosen_polynomial v = subst (λ d. Polynomial d (of_chosen v)) n (through_polynomial chosen (point k) (k + m) (points k m hk hm) (λ i. mul (v i) (scale k i)))

    -- its bytes are what the weights give
    recovered_share : (v : ℕ → ℕ) (c : ℕ) → c < k + m → recovered (cauchy_weight k m) (k + m) chosen v c ≡ share k (of_chosen v) c
    recovered_share v c h =
        summed_same chosen _ _ (k + m) (λ i l t.
        let s = scale k i in
        let r = reciprocal (scale k c) in
        let g = gaps k (k + m) chosen c i in
        let own = gaps k (k + m) chosen i i in
        ap (mul (v i))
        (ap (mul (mul s g)) (reciprocal_mul (scale k c) own (scale_nonzero k m hk hm c h) (others_nonzero chosen (point k) (k + m) (k + m) (points k m hk hm) (omega arith) i l))
        ∙ mul_left_comm (mul s g) r (reciprocal own)
        ∙ ap (mul r) (mul_assoc s g (reciprocal own) ∙ ap (mul s) (mul_comm g (reciprocal own))))
        ∙ mul_left_comm (v i) r _ ∙ ap (mul r) (sym (mul_assoc (v i) s _)))
        ∙ summed_times chosen (reciprocal (scale k c)) _ (k + m)

    -- of a word, the polynomial through any k bytes is the word's own
    same_polynomial : (w : ℕ → ℕ) → ByteWord k m (cauchy_rule k) w → (x : ℕ) → of_chosen w x ≡ of_word w x
    same_polynomial w h x =
        let f = of_word w in
        let p = of_word_polynomial w in
        through_same chosen (point k) (k + m) (λ i. mul (w i) (scale k i)) (λ i. f (point k i))
        (λ i l t. ap (λ y. mul y (scale k i)) (sym (word_shares w h i l)) ∙ mul_comm (share k f i) (scale k i)
        ∙ mul_left_comm (scale k i) (reciprocal (scale k i)) (f (point k i))
        ∙ undo (scale k i) (f (point k i)) (scale_nonzero k m hk hm i l) (polynomial_byte k f p (point k i))) x
        ∙ sym (through_own chosen (point k) (k + m) (points k m hk hm) f (subst (λ d. Polynomial d f) (sym n) p) x)

  pub cauchy_recovers : Recovers k m (cauchy_rule k) (cauchy_weight k m)
  cauchy_recovers = record {
    has = λ chosen n v c h t b.
        recovered_share chosen n v c h
        ∙ ap (mul (reciprocal (scale k c)))
        (through_at chosen (point k) (k + m) (points k m hk hm) (λ i. mul (v i) (scale k i)) c h t (mul_byte (v c) (scale k c)))
        ∙ unscaled c (v c) h b;
    obeys = λ chosen n v e h.
        recovered_share chosen n v (k + e) (omega arith)
        ∙ shares_obey (of_chosen chosen n v) (of_chosen_polynomial chosen n v) e h
        ∙ summed_same every _ _ k (λ d l t. ap (λ x. mul x (coefficient e d)) (sym (recovered_share chosen n v d (omega arith))));
    gives = λ chosen n w hw c h.
        recovered_share chosen n w c h ∙ ap (mul (reciprocal (scale k c))) (same_polynomial chosen n w hw (point k c)) ∙ word_shares w hw c h;
  }
