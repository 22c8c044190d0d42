-- A layout from sizes that fit.
use Rattle.std.specs.Prelude.{◌≡◌, ℕ, true}
use Rattle.code.specs.declared.Sizes.{Sizes}
use Rattle.store.specs.declared.kinds.Shape.{Shape}
use Rattle.stripe_map.specs.declared.layout.Layout.{Layout}
use Rattle.stripe_map.specs.Sizes.{fits_over}
use Rattle.stripe_map.proofs.Sized.{sized_by}

abbrev pub layout_of : (h : Shape) (c : Sizes) (g t : ℕ) → fits_over h c g t ≡ true → Layout
layout_of h c g t fit = record {
  nodes = h.nodes;
  group = g;
  lanes = t;
  k = c.k;
  m = c.m;
  stock = (sized_by h c g t fit).stock;
  few = (sized_by h c g t fit).few;
  checks = (sized_by h c g t fit).checks;
  lane = (sized_by h c g t fit).lane;
  room = (sized_by h c g t fit).room;
  wide = (sized_by h c g t fit).wide;
  groups = (sized_by h c g t fit).groups;
}
