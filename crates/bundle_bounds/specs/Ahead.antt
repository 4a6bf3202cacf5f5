-- The first bound that prunes a node, as a value.
use Rattle.std.specs.Prelude.{ℕ, ℤ, pos, ◌+ℤ◌, ◌*ℤ◌, if◌then◌else◌, Bool, Option, List}
use Rattle.bundle_rules.specs.Ahead.{is_ahead}
use Rattle.bundle_rules.specs.Wishes.{utility}
use Rattle.bundle_rules.specs.Menus.{by_place}
use Rattle.bundle_bounds.specs.declared.nodes.Leaf.{Leaf}
use Rattle.bundle_bounds.specs.Offers.{OfferData}
use Rattle.bundle_bounds.specs.Bounds.{bounds}
use Rattle.bundle_bounds.specs.Limits.{first_below}

-- the number below which a bound prunes a node, for a champion of this utility, and whether it is
-- ahead
abbrev pub limit_of : ℤ → Bool → ℤ
limit_of most ahead = if ahead then pos 1000 *ℤ (most +ℤ pos 1) else pos 1000 *ℤ most

-- the leaf of the first bound that prunes a node for a champion, `None` where none does: the law of
-- the first pruning bound says so
abbrev pub first_pruning : OfferData → ℕ → List ℕ → List ℕ → Option Leaf
first_pruning offer k chosen champion =
    first_below (limit_of (utility (by_place offer.menu) champion) (is_ahead k champion chosen))
    (bounds offer k chosen)
