-- The laws of pruning a node, and of its open places.
use Rattle.std.specs.Prelude.{ℕ, ◌<◌, ◌≤◌, ◌≡◌, ◌↔◌, Bool, true, None, Some, List, [], ◌∷◌, ◌++◌, length}
use Rattle.bundle_rules.specs.Wishes.{IsFeasible}
use Rattle.bundle_rules.specs.Menus.{IsMenu, wishes_of, section_at}
use Rattle.bundle_bounds.specs.declared.nodes.Leaf.{Leaf}
use Rattle.bundle_bounds.specs.Offers.{OfferData, places_of}
use Rattle.bundle_bounds.specs.Opens.{is_open}
use Rattle.bundle_bounds.specs.Bounds.{bounds, IsFirstPruning, NonePrunes}
use Rattle.bundle_bounds.specs.Ahead.{first_pruning}
use Rattle.bundle_bounds.specs.Laws.{IsTakable, IsNode}
use Rattle.bundle_bounds.specs.Prunings.{MayPrune}

-- where a bound prunes a node, it may be pruned, whatever bundles are wanted
abbrev pub BoundsPruneSoundly : Type 0
BoundsPruneSoundly =
    (offer : OfferData) (wanted : List ℕ → Bool) (k : ℕ) (chosen champion : List ℕ) (leaf : Leaf)
    → IsMenu offer.menu → IsNode offer k chosen → IsTakable offer champion
    → IsFirstPruning offer k (places_of offer.menu chosen) (places_of offer.menu champion)
    (bounds offer k (places_of offer.menu chosen)) leaf
    → MayPrune offer wanted k chosen champion

-- the value `first_pruning` is the leaf of the first pruning bound, and `None` where none prunes
-- the node
pub record IsFirstOrNone (offer : OfferData) (k : ℕ)
    (chosen champion : List ℕ) : Type 0 where
  pub first : (leaf : Leaf)
      → (first_pruning offer k chosen champion ≡ Some leaf)
      ↔ IsFirstPruning offer k chosen champion (bounds offer k chosen) leaf
  pub none : (first_pruning offer k chosen champion ≡ None)
      ↔ NonePrunes offer k chosen champion (bounds offer k chosen)

abbrev pub FirstPruningIsTheFirst : Type 0
FirstPruningIsTheFirst =
    (offer : OfferData) (k : ℕ) (chosen champion : List ℕ) → IsMenu offer.menu
    → IsNode offer k chosen
    → IsFeasible (wishes_of offer.menu) champion
    → IsFirstOrNone offer k (places_of offer.menu chosen) (places_of offer.menu champion)

-- an undecided place is open exactly where its section may be taken with the chosen ones
abbrev pub OpensWhereTakable : Type 0
OpensWhereTakable =
    (offer : OfferData) (k place : ℕ) (chosen : List ℕ) → IsMenu offer.menu → IsNode offer k chosen
    → k ≤ place → place < length offer.menu.places
    → (is_open offer (places_of offer.menu chosen) place ≡ true)
    ↔ IsTakable offer (chosen ++ section_at offer.menu.places place ∷ [])
