-- The sizes that a level may have.
use Rattle.std.specs.Prelude.{◌≡◌, ℕ, ◌+◌, ◌*◌, ◌%◌, Bool, ◌&&◌, ◌==◌, nat_le}
use Rattle.code.specs.Making.{admitted}
use Rattle.code.specs.declared.Sizes.{Sizes}
use Rattle.store.specs.Meaning.{within_limits}
use Rattle.store.specs.declared.kinds.Shape.{Shape}
use Rattle.stripe_map.specs.declared.layout.Layout.{Layout}

-- over a store of a shape, with a code of some sizes, in groups of g nodes, with t lanes: g divides the nodes and has room for a
-- word, t is from 1 to 64, and the words fill the places
abbrev pub fits_over : Shape → Sizes → ℕ → ℕ → Bool
fits_over h c g t =
    within_limits h && (admitted c.k c.m && ((nat_le 1 t && nat_le t 64)
    && ((nat_le (c.k + c.m) g && h.nodes % g == 0) && (c.k + c.m) * t == h.places)))

-- a layout of those sizes
pub record Laid_out (h : Shape) (c : Sizes) (g t : ℕ) (l : Layout) : Type 0 where
  pub nodes : l.nodes ≡ h.nodes
  pub group : l.group ≡ g
  pub lanes : l.lanes ≡ t
  pub k : l.k ≡ c.k
  pub m : l.m ≡ c.m
