-- What is asked of a node of a tree.
use Rattle.std.specs.Prelude.{ℕ, List}
use Rattle.bundle_rules.specs.Bundles.{sections_of}
use Rattle.bundle_bounds.specs.declared.nodes.Leaf.{Leaf}
use Rattle.bundle_bounds.specs.declared.stems.Stem.{Stem}
use Rattle.bundle_bounds.specs.Offers.{places_of}
use Rattle.bundle_bounds.specs.Bounds.{bounds, IsFirstPruning, NonePrunes}
use Rattle.bundle_bounds.specs.Laws.{Completes}
use Rattle.bundle_bounds.specs.Stems.{IsStem}
use Rattle.proof_tree.specs.declared.signs.Sign.{Sign}
use Rattle.proof_tree.specs.declared.visit.Visit.{Visit}
use Rattle.proof_tree.specs.Claims.{offer_in, champion_in, champions_places}
use Rattle.proof_tree.specs.Trees.{IsShut, IsSign, HasNoSign}
use Rattle.proof_tree.specs.Standing.{IsStemAt}

-- the places that are chosen at the node
abbrev pub chosen_at : Visit → List ℕ
chosen_at visit = places_of (offer_in visit.claim).menu (sections_of visit.node.chosen)

-- the required place is undecided at the node and not open
abbrev pub IsShutAt : Visit → Type 0
IsShutAt visit =
    IsShut (offer_in visit.claim) visit.claim.required visit.node.place (chosen_at visit)

-- the canonical sign of the node
abbrev pub IsSignAt : Visit → Sign → Type 0
IsSignAt visit =
    IsSign (offer_in visit.claim) visit.claim.required (champions_places visit.claim)
    visit.node.place (chosen_at visit)

-- the node has no canonical sign
abbrev pub HasNoSignAt : Visit → Type 0
HasNoSignAt visit =
    HasNoSign (offer_in visit.claim) visit.claim.required (champions_places visit.claim)
    visit.node.place (chosen_at visit)

-- the stem is at the node
abbrev pub IsStemThere : Visit → Stem → Type 0
IsStemThere visit stem =
    IsStem (offer_in visit.claim) (champion_in visit.claim) visit.node.place
    (sections_of visit.node.chosen) stem

-- the stem at this index is at the node
abbrev pub HasStemAt : Visit → List Stem → ℕ → Type 0
HasStemAt visit stems at =
    IsStemAt (offer_in visit.claim) (champion_in visit.claim) stems at visit.node.place
    (sections_of visit.node.chosen)

-- the champion's sections at decided places are those that are chosen at the node
abbrev pub IsCompleted : Visit → Type 0
IsCompleted visit =
    Completes (offer_in visit.claim) visit.node.place (sections_of visit.node.chosen)
    (champion_in visit.claim)

-- the leaf of the first bound that prunes the node
abbrev pub IsFirstPruningAt : Visit → Leaf → Type 0
IsFirstPruningAt visit =
    IsFirstPruning (offer_in visit.claim) visit.node.place (chosen_at visit)
    (champions_places visit.claim)
    (bounds (offer_in visit.claim) visit.node.place (chosen_at visit))

-- no bound prunes the node
abbrev pub NonePrunesAt : Visit → Type 0
NonePrunesAt visit =
    NonePrunes (offer_in visit.claim) visit.node.place (chosen_at visit)
    (champions_places visit.claim)
    (bounds (offer_in visit.claim) visit.node.place (chosen_at visit))
