-- One step of the walk of a tree.
use Rattle.std.specs.Prelude.{ℕ, ◌+◌, ◌-◌, ◌≤◌, ◌≡◌, ⊤, Option, List, [], ◌∷◌, ◌++◌, length, map, reverse, take}
use Rattle.market_units.specs.declared.limits.TheConstants.{MAX_COURSES}
use Rattle.bundle_rules.specs.Bundles.{sections_of}
use Rattle.bundle_rules.specs.Menus.{MenuData}
use Rattle.bundle_bounds.specs.declared.nodes.Node.{Node}
use Rattle.bundle_bounds.specs.Below.{nodes_below}
use Rattle.bundle_bounds.specs.Offers.{OfferData, places_of}
use Rattle.bundle_bounds.specs.Laws.{IsNode}
use Rattle.proof_tree.specs.declared.walk.Walk.{Walk}
use Rattle.proof_tree.specs.declared.walk.Step.{Step}
use Rattle.proof_tree.specs.declared.walk.Step.TheVariants.{Signed, Unsigned, Ended}
use Rattle.proof_tree.specs.Trees.{IsSign, HasNoSign}
use Rattle.proof_tree.specs.Walks.{below}

-- the waiting nodes of a walk, the next first
abbrev pub waiting_of : Walk → List Node
waiting_of walk = reverse (take walk.count walk.waiting)

-- a node by its places
abbrev pub spot : MenuData → Node → ℕ × List ℕ
spot menu node = (node.place, places_of menu (sections_of node.chosen))

-- the same of several nodes
abbrev pub spots_of : MenuData → List Node → List (ℕ × List ℕ)
spots_of menu nodes = map (spot menu) nodes

-- nodes that may wait, the next first: each has chosen at least as many sections as nodes wait
-- under it
abbrev pub MayWait : OfferData → List Node → Type 0
MayWait offer [] = ⊤
MayWait offer (node ∷ under) =
    (length under ≤ length (sections_of node.chosen)) × (node.place ≤ length offer.menu.places)
    × IsNode offer node.place (sections_of node.chosen) × MayWait offer under

-- what waits in a walk
pub record AreWaiting (offer : OfferData) (walk : Walk) : Type 0 where
  pub few : walk.count ≤ MAX_COURSES + 1
  pub nodes : MayWait offer (waiting_of walk)

-- the step from these nodes to those: the first of them with its canonical sign and the nodes below
-- it, or it has none, or no node is left
abbrev pub IsStep : OfferData → Option ℕ → List ℕ → List (ℕ × List ℕ) → Step → List (ℕ × List ℕ)
    → Type 0
IsStep offer required champion before (Signed sign) after =
    (node : ℕ × List ℕ)
    × ((later : List (ℕ × List ℕ)) × (before ≡ node ∷ later)
    × IsSign offer required champion node.0 node.1 sign
    × (after ≡ below sign node.0 node.1 ++ later))
IsStep offer required champion before Unsigned after =
    (node : ℕ × List ℕ)
    × ((later : List (ℕ × List ℕ)) × (before ≡ node ∷ later)
    × HasNoSign offer required champion node.0 node.1)
IsStep offer required champion before Ended after = before ≡ []

-- how many nodes are left to visit at most
abbrev pub nodes_left : OfferData → List (ℕ × List ℕ) → ℕ
nodes_left offer [] = 0
nodes_left offer (node ∷ nodes) =
    nodes_below (length offer.menu.places - node.0) + nodes_left offer nodes
