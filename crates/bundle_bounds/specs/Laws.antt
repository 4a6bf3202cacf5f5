-- Nodes, and the soundness of their bounds.
use Rattle.std.specs.Prelude.{ℕ, ◌<◌, ℤ, pos, ◌*ℤ◌, ◌≤ℤ◌, ◌≡◌, true, ⊤, List, [], ◌∷◌, length}
use Rattle.market_units.specs.Members.{has}
use Rattle.bundle_rules.specs.Wishes.{utility}
use Rattle.bundle_rules.specs.Menus.{IsMenu, section_at, place_in, wishes_of}
use Rattle.bundle_rules.specs.Demand.{IsChoice}
use Rattle.bundle_bounds.specs.declared.nodes.Leaf.{Leaf}
use Rattle.bundle_bounds.specs.Offers.{OfferData, places_of}
use Rattle.bundle_bounds.specs.Bounds.{bounds}

-- a feasible, affordable, allowed bundle
abbrev pub IsTakable : OfferData → List ℕ → Type 0
IsTakable offer bundle =
    IsChoice (wishes_of offer.menu) offer.price offer.budget offer.allowed bundle

-- a node: the places below k are decided, and of them these sections are chosen, which may be taken
pub record IsNode (offer : OfferData) (k : ℕ) (chosen : List ℕ) : Type 0 where
  pub takable : IsTakable offer chosen
  pub decided : (s : ℕ) → has chosen s ≡ true → place_in offer.menu.places s < k

-- the bundle's sections at decided places are the chosen ones
abbrev pub Completes : OfferData → ℕ → List ℕ → List ℕ → Type 0
Completes offer k chosen bundle =
    (place : ℕ) → place < k → place < length offer.menu.places
    → has bundle (section_at offer.menu.places place)
    ≡ has chosen (section_at offer.menu.places place)

-- each of these bounds is at least this number
abbrev pub EachAtLeast : ℤ → List (Leaf × ℤ) → Type 0
EachAtLeast least [] = ⊤
EachAtLeast least (b ∷ bs) = (least ≤ℤ b.1) × EachAtLeast least bs

-- each bound at a node is at least 1000 times the utility of each takable bundle that completes the
-- chosen one
abbrev pub BoundSoundness : Type 0
BoundSoundness =
    (offer : OfferData) (k : ℕ) (chosen bundle : List ℕ) → IsMenu offer.menu → IsNode offer k chosen
    → IsTakable offer bundle → Completes offer k chosen bundle
    → EachAtLeast (pos 1000 *ℤ utility (wishes_of offer.menu) bundle)
    (bounds offer k (places_of offer.menu chosen))
