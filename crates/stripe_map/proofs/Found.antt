-- The calls of the map are not refused within the layout, and what they answer then. Assumes nothing.
use Rattle.std.proofs.Common.{◌≡◌, ℕ, ◌+◌, ◌*◌, ◌/◌, ◌%◌, ◌<◌, ◌≤◌, leb, None, Ok, Result, sym, ◌∙◌, subst, ⊎_elim, mod-eq_of_lt, arith}
use Rattle.std.proofs.lemmas.Bool.{lt-ltb, lt-leb, leb-false, cases_lt}
use Rattle.refusal.specs.Answer.{refuse, outcome}
use Rattle.refusal.specs.declared.kind.Refusal.{Refusal}
use Rattle.refusal.specs.declared.kind.Refusal.TheVariants.{Node, Place}
use Rattle.refusal.proofs.Turning.{outcome_done, outcome_value, refuse_not, refuse_rest}
use Rattle.stripe_map.specs.declared.layout.Layout.{Layout}
use Rattle.stripe_map.specs.declared.layout.Stripe.{Stripe}
use Rattle.stripe_map.specs.declared.layout.Member.{Member}
use Rattle.stripe_map.specs.declared.layout.Address.{Address}
use Rattle.stripe_map.specs.Map.{Among, locate_refusal, trace_refusal, address_of, member_of}
use Rattle.stripe_map.proofs.Back.{stripe_among}

pub locate_found : (l : Layout) (s : Stripe) (c : ℕ) → Among l s → c < l.k + l.m → locate_refusal l s c ≡ None
locate_found l s c a h =
    rw (lt-ltb s.group (l.nodes / l.group) a.group, lt-ltb s.first l.group a.first, lt-ltb s.lane l.lanes a.lane, lt-leb (l.k + l.m) c h)

pub trace_found : (l : Layout) (n p : ℕ) → n < l.nodes → p < (l.k + l.m) * l.lanes → trace_refusal l n p ≡ None
trace_found l n p h g = rw (lt-leb l.nodes n h, lt-leb ((l.k + l.m) * l.lanes) p g)

-- an address that was given
pub located : (l : Layout) (s : Stripe) (c : ℕ) (a : Address) (r : Result Address Refusal) → r ≡ outcome (locate_refusal l s c) (address_of l s c) → r ≡ Ok a → a ≡ address_of l s c
located l s c a r e o = sym (outcome_value (locate_refusal l s c) (address_of l s c) a (sym e ∙ o))

-- a call that tests a node and then a place was not refused
pub not_beyond : {A : Type 0} (nodes places n p : ℕ) (a b : A) → Ok b ≡ outcome (refuse (leb nodes n) Node (refuse (leb places p) Place None)) a → (n < nodes) × (p < places)
not_beyond nodes places n p a b e =
    let none = outcome_done _ a b (sym e) in
    (leb-false nodes n (refuse_not _ Node _ none), leb-false places p (refuse_not _ Place None (refuse_rest _ Node _ none)))

-- a member that was given: the node and the place are beneath the level, and the stripe is one of the layout's
pub record Traced (l : Layout) (n p : ℕ) (m : Member) : Type 0 where
  pub is : m ≡ member_of l n p
  pub node : n < l.nodes
  pub place : p < (l.k + l.m) * l.lanes
  pub among : Among l m.stripe

pub traced : (l : Layout) (n p : ℕ) (m : Member) (r : Result Member Refusal) → r ≡ outcome (trace_refusal l n p) (member_of l n p) → r ≡ Ok m → Traced l n p m
traced l n p m r e o =
    let got = sym e ∙ o in
    let is = sym (outcome_value (trace_refusal l n p) (member_of l n p) m got) in
    let in_range = not_beyond l.nodes ((l.k + l.m) * l.lanes) n p (member_of l n p) m (sym got) in
    record { is = is; node = in_range.0; place = in_range.1; among = subst (λ x. Among l x.stripe) (sym is) (stripe_among l n p in_range.0) }

-- what divides a number is not above it
pub divisor_below : (g n : ℕ) → 0 < n → n % g ≡ 0 → g ≤ n
divisor_below g n some z =
    ⊎_elim (λ (h : n < g). absurd (let e : n % g ≡ n = mod-eq_of_lt h in omega arith)) (λ h. h) (cases_lt n g)
