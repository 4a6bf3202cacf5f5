-- The laws of trees.
use Rattle.std.specs.Prelude.{ℕ, ◌<◌, ◌≡◌, ◌↔◌, true, Option, None, Some, List, [], length}
use Rattle.market_units.specs.Members.{has}
use Rattle.bundle_rules.specs.Menus.{IsMenu, wishes_of, section_at}
use Rattle.bundle_rules.specs.Demand.{IsBest}
use Rattle.bundle_rules.specs.Given.{IsBestWith}
use Rattle.bundle_bounds.specs.Offers.{OfferData, places_of}
use Rattle.bundle_bounds.specs.Laws.{IsTakable}
use Rattle.proof_tree.specs.declared.signs.Sign.{Sign}
use Rattle.proof_tree.specs.declared.defects.TreeDefect.{TreeDefect}
use Rattle.proof_tree.specs.Trees.{Tree, IsSign, IsTree}
use Rattle.proof_tree.specs.Texts.{IsTreeText}
use Rattle.proof_tree.specs.Defects.{IsDefect, FirstFailsAt}

-- the champion has a tree at the root
abbrev pub HasTree : OfferData → Option ℕ → List ℕ → Type 0
HasTree offer required champion =
    (tree : Tree) × IsTree offer required (places_of offer.menu champion) 0 [] tree

-- a takable champion has a canonical tree exactly where it is the best bundle
abbrev pub TreesProveTheBest : Type 0
TreesProveTheBest =
    (offer : OfferData) (champion : List ℕ) → IsMenu offer.menu → IsTakable offer champion
    → HasTree offer None champion
    ↔ IsBest (wishes_of offer.menu) offer.price offer.budget offer.allowed champion

-- a takable champion with the section of a place has a forced tree exactly where it is the best
-- bundle with that section
abbrev pub TreesProveTheBestWith : Type 0
TreesProveTheBestWith =
    (offer : OfferData) (place : ℕ) (champion : List ℕ) → IsMenu offer.menu
    → place < length offer.menu.places → IsTakable offer champion
    → has champion (section_at offer.menu.places place) ≡ true
    → HasTree offer (Some place) champion
    ↔ IsBestWith (wishes_of offer.menu) offer.price offer.budget offer.allowed
    (section_at offer.menu.places place) champion

-- a node has at most one canonical sign, and at most one tree
pub record AreOne (offer : OfferData) (required : Option ℕ) (champion : List ℕ) (k : ℕ)
    (chosen : List ℕ) : Type 0 where
  pub sign : (a b : Sign) → IsSign offer required champion k chosen a
      → IsSign offer required champion k chosen b → a ≡ b
  pub tree : (a b : Tree) → IsTree offer required champion k chosen a
      → IsTree offer required champion k chosen b → a ≡ b

-- and so at every node
abbrev pub OneTree : Type 0
OneTree =
    (offer : OfferData) (required : Option ℕ) (champion : List ℕ) (k : ℕ) (chosen : List ℕ)
    → AreOne offer required champion k chosen

-- the text of the canonical tree has no defect
abbrev pub NoDefectInATree : Type 0
NoDefectInATree =
    (offer : OfferData) (champion text : List ℕ) (defect : TreeDefect) → IsMenu offer.menu
    → IsTreeText offer None champion text → ¬ IsDefect offer champion text defect

-- the walk of a tree with its text fails nowhere
abbrev pub NoFailureInATree : Type 0
NoFailureInATree =
    (offer : OfferData) (required : Option ℕ) (champion text : List ℕ) (at : ℕ) → IsMenu offer.menu
    → IsTreeText offer required champion text → ¬ FirstFailsAt offer required champion text at
