-- The bounds at a node, in their order: each a number above 1000 times the utility of what can
-- still be reached.
use Rattle.std.specs.Prelude.{ℕ, ◌+◌, ◌*◌, ◌-◌, ◌/◌, ℤ, pos, ◌+ℤ◌, ◌*ℤ◌, ◌<ℤ◌, ◌≡◌, ◌⊎◌, ◌&&◌, nat_lt, if◌then◌else◌, ⊤, List, [], ◌∷◌, ◌++◌}
use Rattle.bundle_rules.specs.Ahead.{IsAhead}
use Rattle.bundle_rules.specs.Wishes.{utility}
use Rattle.bundle_rules.specs.Menus.{by_place}
use Rattle.bundle_bounds.specs.declared.nodes.Leaf.{Leaf}
use Rattle.bundle_bounds.specs.declared.nodes.Leaf.TheVariants.{Plain, Budget, Credits, Number}
use Rattle.bundle_bounds.specs.Offers.{OfferData}
use Rattle.bundle_bounds.specs.Courses.{takes_of, by_course}
use Rattle.bundle_bounds.specs.declared.prospects.Prospect.{Prospect}
use Rattle.bundle_bounds.specs.declared.prospects.Resource.{Resource}
use Rattle.bundle_bounds.specs.declared.prospects.Resource.TheVariants.{Money, Count}
use Rattle.bundle_bounds.specs.declared.prospects.Resource.TheVariants as resources
use Rattle.bundle_bounds.specs.Opens.{left_of, open_places, prospects}

-- 1000 times the worth of a place, less this price times what the place takes of the resource; 0
-- where that is negative
abbrev pub over_price : Resource → ℕ → Prospect → ℕ
over_price resource price p = 1000 * p.worth - price * takes_of resource p

-- the price times what is left of the resource, and for each course the greatest `over_price` of
-- its open places, added up
abbrev pub at_price : Resource → ℕ → ℕ → List Prospect → ℕ
at_price resource rest price ps = price * rest + by_course (over_price resource price) ps

-- the leaf of a resource's bound by this place
abbrev pub leaf_of : Resource → ℕ → Leaf
leaf_of Money place = Budget place
leaf_of resources.Credits place = Credits place
leaf_of Count place = Number place

-- a bound for each of these that is worth something and takes something, above this base and with
-- this rest
abbrev pub resource_bounds : ℤ → ℕ → Resource → List Prospect → List Prospect → List (Leaf × ℤ)
resource_bounds base rest resource all [] = []
resource_bounds base rest resource all (p ∷ ps) =
    if nat_lt 0 p.worth && nat_lt 0 (takes_of resource p)
    then (leaf_of resource p.place, base +ℤ pos (at_price resource rest (1000 * p.worth / takes_of resource p) all)) ∷ resource_bounds base rest resource all ps
    else resource_bounds base rest resource all ps

-- 1000 times the utility of the chosen places
abbrev pub base_of : OfferData → List ℕ → ℤ
base_of offer chosen = pos 1000 *ℤ utility (by_place offer.menu) chosen

-- all bounds above this base, with these rests: the plain one, then those of the budget, of the
-- credits and of the number of sections
abbrev pub all_bounds : ℤ → ℕ → ℕ → ℕ → List Prospect → List (Leaf × ℤ)
all_bounds base budget credits courses ps =
    (Plain, base +ℤ pos (by_course (λ p. 1000 * p.worth) ps))
    ∷
    (resource_bounds base budget Money ps ps
    ++ (resource_bounds base credits resources.Credits ps ps
    ++ resource_bounds base courses Count ps ps))

abbrev pub bounds_over : OfferData → List ℕ → List Prospect → List (Leaf × ℤ)
bounds_over offer chosen ps =
    all_bounds (base_of offer chosen) (left_of offer chosen Money)
    (left_of offer chosen resources.Credits) (left_of offer chosen Count) ps

abbrev pub bounds : OfferData → ℕ → List ℕ → List (Leaf × ℤ)
bounds offer k chosen =
    bounds_over offer chosen (prospects offer chosen (open_places offer k chosen))

-- the bound prunes the node: it is below 1000 u, u being the champion's utility; or below
-- 1000 (u + 1), where the champion has the first decided place on which it and the chosen ones
-- differ
abbrev pub Prunes : OfferData → ℕ → List ℕ → List ℕ → ℤ → Type 0
Prunes offer k chosen champion bound =
    (bound <ℤ (pos 1000 *ℤ utility (by_place offer.menu) champion))
    ⊎
    ((bound <ℤ (pos 1000 *ℤ (utility (by_place offer.menu) champion +ℤ pos 1)))
    × IsAhead k champion chosen)

-- none of these bounds prunes the node
abbrev pub NonePrunes : OfferData → ℕ → List ℕ → List ℕ → List (Leaf × ℤ) → Type 0
NonePrunes offer k chosen champion [] = ⊤
NonePrunes offer k chosen champion (b ∷ bs) =
    (¬ Prunes offer k chosen champion b.1) × NonePrunes offer k chosen champion bs

-- the leaf of the first of these bounds that prunes the node
abbrev pub IsFirstPruning : OfferData → ℕ → List ℕ → List ℕ → List (Leaf × ℤ) → Leaf → Type 0
IsFirstPruning offer k chosen champion [] leaf = ⊥
IsFirstPruning offer k chosen champion (b ∷ bs) leaf =
    (Prunes offer k chosen champion b.1 × (b.0 ≡ leaf))
    ⊎ ((¬ Prunes offer k chosen champion b.1) × IsFirstPruning offer k chosen champion bs leaf)

-- the leaf is on this menu of bounds, with this number
abbrev pub HasBound : List (Leaf × ℤ) → Leaf → ℤ → Type 0
HasBound [] leaf bound = ⊥
HasBound (b ∷ bs) leaf bound = ((b.0 ≡ leaf) × (b.1 ≡ bound)) ⊎ HasBound bs leaf bound
