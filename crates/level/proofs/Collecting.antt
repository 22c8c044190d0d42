-- Reading all data of a level, stripe after stripe. Assumes nothing.
use Rattle.std.proofs.Common.{◌≡◌, ℕ, ◌+◌, ◌-◌, ◌*◌, ◌/◌, ◌%◌, ◌<◌, ◌≤◌, true, false, cond, not, List, length, take, drop, is_some, is_ok, Some, None, Ok, Option, Result, sym, ap, ◌∙◌, subst, ap₂, ⊎_elim, mul_assoc, mul_comm, add-mul, arith, below_more}
use lib.Arith.{digits_lt, digits_div, digits_mod}
use borrow.Rule.Slice.PartMut.{put_mid}
use Rattle.std.proofs.lemmas.Nat.{mul-le}
use Rattle.std.proofs.lemmas.List.Edits.{length-between}
use Rattle.std.proofs.lemmas.Bool.{cases_eq}
use Rattle.refusal.specs.Answer.{refuse, first}
use Rattle.refusal.specs.declared.kind.Refusal.{Refusal}
use Rattle.refusal.specs.declared.kind.Refusal.TheVariants.{Incomplete}
use Rattle.refusal.proofs.First.{first_found, first_all}
use Rattle.code.specs.Calls.{block_at}
use Rattle.code.proofs.Parts.{block_here, block_other}
use Rattle.store.specs.Meaning.{Cells, Meaning}
use Rattle.store.specs.Calls.{cells_of, absent_at, GetAnswer}
use Rattle.stripe_map.specs.declared.layout.Layout.{Layout}
use Rattle.stripe_map.specs.declared.layout.Stripe.{Stripe}
use Rattle.stripe_map.specs.Map.{node_of, place_of, stripe_of, block_of, Among}
use Rattle.stripe_map.proofs.Back.{groups_fill, data_place, block_below, place_back, node_back, stripe_among, stripe_on, block_on}
use Rattle.level.specs.Level.{Fits, level_shape}
use Rattle.level.specs.Checks.{start_of, position_of, CollectedTo, NodeEnds}
use Rattle.level.proofs.Reading.{cell_told}

module _ (l : Layout) where
  -- the stripe by the number of its first data block
  stripe_number : (s : Stripe) → Among l s → (s.group * l.group + s.first) * l.lanes + s.lane < l.nodes * l.lanes
  stripe_number s a =
      let d = digits_lt a.group a.first in
      digits_lt (omega (arith, d, groups_fill l)) a.lane

  all_data : l.nodes * l.lanes * l.k ≡ l.nodes * (l.k * l.lanes)
  all_data = mul_assoc l.nodes l.lanes l.k ∙ ap (λ x. l.nodes * x) (mul_comm l.lanes l.k)

  -- the data of a stripe lie within all data
  pub start_within : (s : Stripe) → Among l s → start_of l s + l.k ≤ l.nodes * (l.k * l.lanes)
  unfolding start_of
  start_within s a =
      let n = (s.group * l.group + s.first) * l.lanes + s.lane in
      let h = stripe_number s a in
      let d : (n + 1) * l.k ≤ l.nodes * l.lanes * l.k = mul-le (n + 1) l.k (l.nodes * l.lanes) l.k (omega arith) (omega arith) in
      let e : (n + 1) * l.k ≡ n * l.k + l.k = omega arith in
      omega (arith, d, e, all_data)

  same_start : (s t : Stripe) (i j : ℕ) → Among l s → Among l t → i < l.k → j < l.k → start_of l s + i ≡ start_of l t + j → (s ≡ t) × (i ≡ j)
  unfolding start_of
  same_start s t i j a b hi hj e =
      let A = (s.group * l.group + s.first) * l.lanes + s.lane in
      let B = (t.group * l.group + t.first) * l.lanes + t.lane in
      let ab : A ≡ B = sym (digits_div A hi) ∙ ap (λ x. x / l.k) e ∙ digits_div B hj in
      let ij : i ≡ j = sym (digits_mod A hi) ∙ ap (λ x. x % l.k) e ∙ digits_mod B hj in
      let lane : s.lane ≡ t.lane = sym (digits_mod _ a.lane) ∙ ap (λ x. x % l.lanes) ab ∙ digits_mod _ b.lane in
      let C = s.group * l.group + s.first in
      let D = t.group * l.group + t.first in
      let cd : C ≡ D = sym (digits_div C a.lane) ∙ ap (λ x. x / l.lanes) ab ∙ digits_div D b.lane in
      let first : s.first ≡ t.first = sym (digits_mod s.group a.first) ∙ ap (λ x. x % l.group) cd ∙ digits_mod t.group b.first in
      let group : s.group ≡ t.group = sym (digits_div s.group a.first) ∙ ap (λ x. x / l.group) cd ∙ digits_div t.group b.first in
      (λ z. record { group = group z; first = first z; lane = lane z }, ij)

  -- the blocks of a stripe come one after the other
  pub position_on : (s : Stripe) (i : ℕ) → Among l s → i < l.k + l.m → position_of l (node_of l s i) (place_of l s i) ≡ start_of l s + i
  position_on s i a h = ap₂ (λ x y. start_of l x + y) (stripe_on l s i a h) (block_on l s i a.lane)

  pub position_within : (n p : ℕ) → n < l.nodes → p < l.k * l.lanes → position_of l n p < l.nodes * (l.k * l.lanes)
  position_within n p hn hp =
      let d = start_within (stripe_of l n p) (stripe_among l n p hn) in
      let b = block_below l p l.k hp in
      omega (arith, d, b)

  pub few_data : l.nodes * (l.k * l.lanes) ≤ 4096
  few_data =
      let w : l.k * l.lanes ≤ 64 = omega (arith, l.room, add-mul l.k l.m l.lanes) in
      mul-le l.nodes (l.k * l.lanes) 64 64 l.stock.1 w

  -- no two cells have one position
  pub position_only : (x y n p : ℕ) → x < l.nodes → y < l.k * l.lanes → n < l.nodes → p < l.k * l.lanes
      → position_of l x y ≡ position_of l n p → (x ≡ n) × (y ≡ p)
  position_only x y n p hx hy hn hp e =
      let q = same_start (stripe_of l x y) (stripe_of l n p) (block_of l y) (block_of l p) (stripe_among l x y hx) (stripe_among l n p hn) (block_below l y l.k hy) (block_below l p l.k hp) e in (
        sym (node_back l x y (data_place l y hy)) ∙ ap₂ (node_of l) q.0 q.1 ∙ node_back l n p (data_place l p hp),
        sym (place_back l x y) ∙ ap₂ (place_of l) q.0 q.1 ∙ place_back l n p,
      )

-- reading the cells of a node, place after place
module _ (l : Layout) (m : Meaning) (F : Fits l m.shape) (s n : ℕ) (s< : s < m.shape.slots) (n< : n < l.nodes) where
  abbrev cells : Cells
  cells = cells_of (m.slot s)

  abbrev absent : ℕ → Option Refusal
  absent y = refuse (not (is_some (cells n y))) (Incomplete n y) None

  none_absent : (p y : ℕ) (bytes : List ℕ) → CollectedTo l cells n p bytes → y ≤ p → first absent y ≡ None
  none_absent p y bytes read e = first_all absent y (λ z z<. ap (λ o. refuse (not (is_some o)) (Incomplete n z) None) (read.1 z (omega arith)))

  -- past its last place all are read
  pub node_ends : (p : ℕ) (bytes : List ℕ) → l.k * l.lanes ≤ p → CollectedTo l cells n p bytes → NodeEnds l m s n (Ok tt) bytes
  node_ends p bytes e read = (
    (λ x y x< xn y<. ⊎_elim
        (λ (here : x ≡ n). subst (λ z. cells z y ≡ Some (block_at bytes (position_of l z y))) (sym here) (read.1 y (omega arith)))
        (λ (ne : x ≡ n → ⊥). read.0 x y (omega arith) xn y<)
        (cases_eq x n)),
    none_absent p (l.k * l.lanes) bytes read e,
  )

  -- at a place, whose block is read into its part of the bytes
  module _ (p at : ℕ) (bytes new : List ℕ) (r : Result Unit Refusal) (p< : p < l.k * l.lanes) (is : at ≡ position_of l n p) (room : length bytes ≡ 262144)
      (read : CollectedTo l cells n p bytes) (q : GetAnswer m s n p (take (at * 64 + 64 - at * 64) (drop (at * 64) bytes)) r new) where
    wide : at * 64 + 64 - at * 64 ≡ 64
    wide = omega arith

    within : at * 64 + 64 ≤ length bytes
    within = omega (arith, is, room, position_within l n p n< p<, few_data l)

    part_size : length (take (at * 64 + 64 - at * 64) (drop (at * 64) bytes)) ≡ 64
    part_size = length-between bytes (at * 64) (at * 64 + 64) within ∙ wide

    told : cond (is_ok r) (Some new) None ≡ cells n p
    told = let d = data_place l p p< in cell_told m s n p s< (omega (arith, n<, F.nodes)) (omega (arith, d, F.places)) _ new r part_size q

    -- there is none
    pub node_stops : is_ok r ≡ false → absent_at (level_shape l m.shape) cells n ≡ Some (Incomplete n p)
    node_stops bad =
        let gone : absent p ≡ Some (Incomplete n p) = ap (λ o. refuse (not (is_some o)) (Incomplete n p) None) (sym told ∙ ap (λ b. cond b (Some new) None) bad) in
        first_found absent p (l.k * l.lanes) (none_absent p p bytes read (omega arith)) (ap is_some gone) p< ∙ gone

    abbrev bytes' : List ℕ
    bytes' = put_mid (at * 64) (at * 64 + 64 - at * 64) bytes new

    -- or it is read
    pub node_reads : is_ok r ≡ true → length new ≡ length (take (at * 64 + 64 - at * 64) (drop (at * 64) bytes))
        → CollectedTo l cells n (p + 1) bytes'
    node_reads good long = (
      (λ x y x< xn y<. read.0 x y x< xn y< ∙ ap Some (sym (other x y xn y< (λ e _. omega arith)))),
      below_more (λ y. cells n y ≡ Some (block_at bytes' (position_of l n y))) p
          (λ y y<. read.1 y y< ∙ ap Some (sym (other n y n< (omega arith) (λ _ e. omega arith))))
          (sym told ∙ ap (λ b. cond b (Some new) None) good ∙ ap Some (sym (block_here at (at * 64 + 64 - at * 64) bytes new (omega (arith, within)) size) ∙ ap (block_at bytes') is)),
    )
      where
        size : length new ≡ 64
        size = long ∙ part_size

        other : (x y : ℕ) → x < l.nodes → y < l.k * l.lanes → (x ≡ n → y ≡ p → ⊥) → block_at bytes' (position_of l x y) ≡ block_at bytes (position_of l x y)
        other x y hx hy ne = block_other at (at * 64 + 64 - at * 64) bytes new (omega (arith, within)) size wide (position_of l x y)
            (λ e. let z = position_only l x y n p hx hy n< p< (e ∙ is) in ne z.0 z.1)
