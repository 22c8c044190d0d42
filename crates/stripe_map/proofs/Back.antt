-- The stripe map and its inverse undo each other, and stay within the store beneath. Assumes nothing.
use Rattle.std.proofs.Common.{◌≡◌, ℕ, ◌+◌, ◌-◌, ◌*◌, ◌/◌, ◌%◌, ◌<◌, ◌≤◌, ap, ◌∙◌, ap₂, mod-lt, mod-eq_of_lt, add-mul, div-add-mod', arith}
use native.Mathlib.Nat.{mod-add-mod, add-mod_right}
use lib.Arith.{digits_lt, digits_div, digits_mod}
use Rattle.std.proofs.lemmas.Nat.{mul-le, div_below, le-div}
use Rattle.stripe_map.specs.declared.layout.Layout.{Layout}
use Rattle.stripe_map.specs.declared.layout.Stripe.{Stripe}
use Rattle.stripe_map.specs.Map.{node_of, place_of, stripe_of, block_of, Among}

-- turning back by c and on by c, and the other way round
turn_back : (i c G : ℕ) → c ≤ G → i < G → ((i + (G - c)) % G + c) % G ≡ i
turn_back i c G h lt =
    let e : i + (G - c) + c ≡ i + G = omega arith in
    mod-add-mod (i + (G - c)) G c ∙ ap (λ x. x % G) e ∙ add-mod_right i G ∙ mod-eq_of_lt lt

turn_on : (j c G : ℕ) → c ≤ G → j < G → ((j + c) % G + (G - c)) % G ≡ j
turn_on j c G h lt =
    let e : j + c + (G - c) ≡ j + G = omega arith in
    mod-add-mod (j + c) G (G - c) ∙ ap (λ x. x % G) e ∙ add-mod_right j G ∙ mod-eq_of_lt lt

module _ (l : Layout) where
  pub group_some : 0 < l.group
  group_some = omega (arith, l.wide, l.few)

  pub lanes_some : 0 < l.lanes
  lanes_some = omega (arith, l.lane)

  -- the groups fill the nodes
  pub groups_fill : l.nodes / l.group * l.group ≡ l.nodes
  groups_fill =
      let e : l.nodes / l.group * l.group + l.nodes % l.group ≡ l.nodes = div-add-mod' l.nodes l.group in
      let z : l.nodes % l.group ≡ 0 = l.groups in
      omega (arith, e, z)

  -- a place with data is one beneath
  pub data_place : (p : ℕ) → p < l.k * l.lanes → p < (l.k + l.m) * l.lanes
  data_place p h = rw add-mul (omega arith)

  pub block_below : (p b : ℕ) → p < b * l.lanes → block_of l p < b
  unfolding block_of
  block_below p b h = div_below p l.lanes b lanes_some h

  pub block_least : (p b : ℕ) → b * l.lanes ≤ p → b ≤ block_of l p
  unfolding block_of
  block_least p b h = le-div b p l.lanes lanes_some h

  -- the stripe's block of that number lies at the place and on the node
  pub place_back : (n p : ℕ) → place_of l (stripe_of l n p) (block_of l p) ≡ p
  unfolding place_of stripe_of block_of
  place_back n p = div-add-mod' p l.lanes

  pub node_back : (n p : ℕ) → p < (l.k + l.m) * l.lanes → node_of l (stripe_of l n p) (block_of l p) ≡ n
  unfolding node_of stripe_of block_of
  node_back n p h =
      let c : p / l.lanes < l.k + l.m = div_below p l.lanes (l.k + l.m) lanes_some h in
      let w : p / l.lanes ≤ l.group = omega (arith, l.wide, c) in
      ap (λ x. n / l.group * l.group + x) (turn_back (n % l.group) (p / l.lanes) l.group w (mod-lt n group_some)) ∙ div-add-mod' n l.group

  -- the block's place and node have its number and stripe
  pub block_on : (s : Stripe) (c : ℕ) → s.lane < l.lanes → block_of l (place_of l s c) ≡ c
  unfolding place_of block_of
  block_on s c h = digits_div c h

  pub stripe_on : (s : Stripe) (c : ℕ) → Among l s → c < l.k + l.m → stripe_of l (node_of l s c) (place_of l s c) ≡ s
  unfolding node_of stripe_of place_of
  stripe_on s c a h =
      let G = l.group in
      let r : (s.first + c) % G < G = mod-lt (s.first + c) group_some in
      let w : c ≤ G = omega (arith, l.wide, h) in
      let g : (s.group * G + (s.first + c) % G) / G ≡ s.group = digits_div s.group r in
      let i : (s.group * G + (s.first + c) % G) % G ≡ (s.first + c) % G = digits_mod s.group r in
      let b : (c * l.lanes + s.lane) / l.lanes ≡ c = digits_div c a.lane in
      let t : (c * l.lanes + s.lane) % l.lanes ≡ s.lane = digits_mod c a.lane in
      let j : ((s.group * G + (s.first + c) % G) % G + (G - (c * l.lanes + s.lane) / l.lanes)) % G ≡ s.first
      = ap₂ (λ x y. (x + (G - y)) % G) i b ∙ turn_on s.first c G w a.first in
      λ e. record { group = g e; first = j e; lane = t e }

  -- the blocks of a stripe lie within the store beneath
  pub node_within : (s : Stripe) (c : ℕ) → Among l s → node_of l s c < l.nodes
  unfolding node_of
  node_within s c a =
      let d = digits_lt a.group (mod-lt (s.first + c) group_some) in
      omega (arith, d, groups_fill)

  pub place_within : (s : Stripe) (c b : ℕ) → Among l s → c < b → place_of l s c < b * l.lanes
  unfolding place_of
  place_within s c b a h = digits_lt h a.lane

  -- a check lies above the data
  pub check_above : (s : Stripe) (c : ℕ) → l.k ≤ c → l.k * l.lanes ≤ place_of l s c
  unfolding place_of
  check_above s c g = let d = mul-le l.k l.lanes c l.lanes g (omega arith) in omega arith

  -- a cell beneath is in a stripe of the layout
  pub stripe_among : (n p : ℕ) → n < l.nodes → Among l (stripe_of l n p)
  unfolding stripe_of
  stripe_among n p h = record {
    group = div_below n l.group (l.nodes / l.group) group_some (omega (arith, h, groups_fill));
    first = mod-lt (n % l.group + (l.group - p / l.lanes)) group_some;
    lane = mod-lt p lanes_some;
  }
