-- The check of a stripe whose data were read. Assumes nothing.
use Rattle.std.proofs.Common.{◌≡◌, ℕ, ◌+◌, ◌-◌, ◌*◌, ◌<◌, ◌≤◌, true, false, eqb, ltb, leb, List, length, take, drop, Some, None, Result, sym, ap, ◌∙◌, subst, ap₂, ⊎_elim, arith, length-drop, length-take}
use mathlib.Core.Path.{fun_ext}
use Rattle.std.proofs.lemmas.Bool.{lt-leb, lt-ltb, le-ltb, eq-eqb, cond-true, cond-false, cases_lt}
use Rattle.refusal.specs.declared.kind.Refusal.{Refusal}
use Rattle.refusal.proofs.Turning.{turned}
use Rattle.code.specs.Word.{Coding}
use Rattle.code.specs.Calls.{block_at, first, check_refusal, Checks}
use Rattle.code.proofs.Parts.{block_of_part}
use Rattle.store.specs.Meaning.{Cells}
use Rattle.stripe_map.specs.declared.layout.Layout.{Layout}
use Rattle.stripe_map.specs.declared.layout.Stripe.{Stripe}
use Rattle.stripe_map.specs.declared.layout.Member.{Member}
use Rattle.stripe_map.specs.Map.{node_of, place_of, stripe_of, block_of, Among, member_of}
use Rattle.stripe_map.proofs.Back.{stripe_among, block_below, block_least, node_within, place_within}
use Rattle.level.specs.Checks.{start_of, Collected, CheckPlace, data_of, check_at}
use Rattle.level.proofs.Collecting.{start_within, position_on}
use Rattle.level.proofs.Words.{fitted, fitted_is}

module _ (l : Layout) (c : Cells) (bytes : List ℕ) (read : Collected l c l.nodes bytes) (room : l.nodes * (l.k * l.lanes) * 64 ≤ length bytes) where
  -- the part of the bytes that has the data of a stripe
  pub stripe_data : (s : Stripe) → Among l s → first l.k (take (l.k * 64) (drop (start_of l s * 64) bytes)) ≡ data_of l c s
  stripe_data s a = fun_ext (λ i. ⊎_elim
      (λ (lt : i < l.k).
      let n = node_of l s i in
      let p = place_of l s i in
      let part = take (l.k * 64) (drop (start_of l s * 64) bytes) in
      cond-true (ltb i l.k) (Some (block_at part i)) None (lt-ltb i l.k lt)
      ∙ ap Some (block_of_part (start_of l s) l.k bytes (let d = start_within l s a in omega (arith, d, room)) i lt ∙ ap (block_at bytes) (sym (position_on l s i a (omega arith))))
      ∙ sym (read n p (node_within l s i a) (node_within l s i a) (place_within l s i l.k a lt))
      ∙ sym (cond-true (ltb i l.k) (c n p) None (lt-ltb i l.k lt)))
      (λ (le : l.k ≤ i).
      cond-false (ltb i l.k) _ None (le-ltb i l.k le) ∙ sym (cond-false (ltb i l.k) (c (node_of l s i) (place_of l s i)) None (le-ltb i l.k le)))
      (cases_lt i l.k))

  -- what the code computes from the part that begins with the data of a cell's stripe
  pub check_is : (K : Coding) (n p : ℕ) (x : Member) (start : ℕ) → l.k ≡ K.k → l.m ≡ K.m → CheckPlace l n p → x ≡ member_of l n p → start ≡ start_of l x.stripe
      → (old new : List ℕ) → length old ≡ 64 → (r : Result Unit Refusal)
      → Checks K (x.number - l.k) (take (start * 64 + l.k * 64 - start * 64) (drop (start * 64) bytes)) old r new
      → new ≡ check_at l K.whole c n p
  check_is K n p x start k m at is starts old new size r q =
      let s = stripe_of l n p in
      let a = stripe_among l n p at.node in
      let part = take (l.k * 64) (drop (start_of l s * 64) bytes) in
      let least = block_least l p l.k at.least in
      let most = block_below l p (l.k + l.m) at.most in
      let within = start_within l s a in
      let wide : start * 64 + l.k * 64 - start * 64 ≡ l.k * 64 = omega arith in
      let same : take (start * 64 + l.k * 64 - start * 64) (drop (start * 64) bytes) ≡ part = ap₂ (λ w b. take w (drop (b * 64) bytes)) wide (starts ∙ ap (λ y. start_of l y.stripe) is) in
      let q' : Checks (fitted l K) (block_of l p - l.k) part old r new
      = subst (λ y. Checks (fitted l K) (y.number - l.k) part old r new) is
      (subst (λ y. Checks (fitted l K) (x.number - l.k) y old r new) same
      (subst (λ y. Checks y (x.number - l.k) (take (start * 64 + l.k * 64 - start * 64) (drop (start * 64) bytes)) old r new) (fitted_is l K k m) q)) in
      let u : eqb (length part) (l.k * 64) ≡ true = eq-eqb (length part) (l.k * 64) (simp (length-take, length-drop) (omega (arith, within, room))) in
      let v : eqb (length old) 64 ≡ true = eq-eqb (length old) 64 size in
      let w : leb l.m (block_of l p - l.k) ≡ false = lt-leb l.m (block_of l p - l.k) (omega (arith, least, most)) in
      let none : check_refusal (fitted l K) (block_of l p - l.k) (length part) (length old) ≡ None = rw (u, v, w) in
      let number : l.k + (block_of l p - l.k) ≡ block_of l p = omega (arith, least) in
      turned _ _ _ _ _ q' none ∙ ap₂ K.whole (stripe_data s a) number
