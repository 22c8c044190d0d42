-- What sizes that fit have. Assumes nothing.
use Rattle.std.proofs.Common.{◌≡◌, ℕ, ◌+◌, ◌*◌, ◌%◌, ◌≤◌, true, ◌&&◌, eqb, leb, arith}
use Rattle.std.proofs.lemmas.Bool.{and_parts, leb-true, eqb-true}
use Rattle.code.specs.Making.{admitted}
use Rattle.code.specs.declared.Sizes.{Sizes}
use Rattle.store.specs.Meaning.{within_limits}
use Rattle.store.specs.declared.kinds.Shape.{Shape}
use Rattle.store.proofs.Limits.{limits_from}
use Rattle.stripe_map.specs.Sizes.{fits_over}
use Rattle.stripe_map.proofs.Found.{divisor_below}

pub record Sized (h : Shape) (c : Sizes) (g t : ℕ) : Type 0 where
  pub stock : (2 ≤ h.nodes) × (h.nodes ≤ 64)
  pub few : (1 ≤ c.k) × (c.k ≤ 12)
  pub checks : (1 ≤ c.m) × (c.m ≤ 4)
  pub lane : (1 ≤ t) × (t ≤ 64)
  pub room : (c.k + c.m) * t ≤ 64
  pub wide : (c.k + c.m ≤ g) × (g ≤ h.nodes)
  pub groups : h.nodes % g ≡ 0
  pub places : (c.k + c.m) * t ≡ h.places

pub sized_by : (h : Shape) (c : Sizes) (g t : ℕ) → fits_over h c g t ≡ true → Sized h c g t
sized_by h c g t e =
    let a = and_parts (within_limits h) _ e in
    let b = and_parts (admitted c.k c.m) _ a.1 in
    let d = and_parts (leb 1 t && leb t 64) _ b.1 in
    let f = and_parts (leb (c.k + c.m) g && eqb (h.nodes % g) 0) (eqb ((c.k + c.m) * t) h.places) d.1 in
    let limits = limits_from h a.0 in
    let both = and_parts (leb 1 c.k && leb c.k 12) (leb 1 c.m && leb c.m 4) b.0 in
    let k = and_parts (leb 1 c.k) (leb c.k 12) both.0 in
    let m = and_parts (leb 1 c.m) (leb c.m 4) both.1 in
    let l = and_parts (leb 1 t) (leb t 64) d.0 in
    let w = and_parts (leb (c.k + c.m) g) (eqb (h.nodes % g) 0) f.0 in
    let groups = eqb-true (h.nodes % g) 0 w.1 in
    let places = eqb-true ((c.k + c.m) * t) h.places f.1 in
    record {
      stock = (limits.nodes_least, limits.nodes_most);
      few = (leb-true 1 c.k k.0, leb-true c.k 12 k.1);
      checks = (leb-true 1 c.m m.0, leb-true c.m 4 m.1);
      lane = (leb-true 1 t l.0, leb-true t 64 l.1);
      room = omega (arith, places, limits.places_most);
      wide = (leb-true (c.k + c.m) g w.0, divisor_below g h.nodes (omega (arith, limits.nodes_least)) groups);
      groups = groups;
      places = places;
    }
