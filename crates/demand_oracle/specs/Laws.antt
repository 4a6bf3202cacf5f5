-- The laws of the search and of what can be reached.
use Rattle.std.specs.Prelude.{ℕ, ◌<◌, ◌≡◌, Bool, true, List, [], ◌∷◌, ◌+◌, ◌*◌, ◌/◌, ◌^◌, ◌≤◌, pos, ◌*ℤ◌, ◌≤ℤ◌, length}
use Rattle.bundle_rules.specs.Menus.{IsMenu, wishes_of}
use Rattle.bundle_rules.specs.Given.{IsBestOf}
use Rattle.bundle_rules.specs.Places.{menu_sections}
use Rattle.bundle_bounds.specs.Offers.{OfferData, places_of}
use Rattle.bundle_bounds.specs.Laws.{IsTakable, IsNode, Completes}
use Rattle.demand_oracle.specs.Search.{Aim, Kept, bundles_kept, IsSearched, LeadAim, IsBestByName}
use Rattle.demand_oracle.specs.Names.{IsPreferredByName}
use Rattle.demand_oracle.specs.declared.multipliers.Multipliers.{Multipliers}
use Rattle.bundle_bounds.specs.Opens.{budget_left}
use Rattle.bundle_rules.specs.Wishes.{Wishes, utility}
use Rattle.bundle_rules.specs.Demand.{IsBest}
use Rattle.demand_oracle.specs.Bests.{IsAmong, AreInOrder, AreBest, IsFirstWithin}
use Rattle.demand_oracle.specs.Covers.{Covers, CoversWithin, reach_of}

-- a search through all places of a menu from any takable wanted bundles, if it leaves bundles in
-- order, leaves ones that are preferred to all other wanted ones, and the first is the best, whatever
-- names the sections have
abbrev pub SearchFindsTheBest : Type 0
SearchFindsTheBest =
    (offer : OfferData) (aim : Aim) (kept result : Kept) → IsMenu offer.menu
    → ((bundle : List ℕ) → IsAmong bundle (bundles_kept kept)
    → IsTakable offer bundle × (aim.wanted bundle ≡ true))
    → AreInOrder (IsPreferredByName aim.name (wishes_of offer.menu)) (bundles_kept result)
    → IsSearched offer aim 0 [] (menu_sections offer.menu) kept result
    → LeadAim offer aim (bundles_kept result)
    × ((best : List ℕ) (others : List (List ℕ)) → bundles_kept result ≡ best ∷ others
    → IsBestByName offer aim best)

-- the best bundle is the same where each section is called by its own number as where none has a
-- name
abbrev pub OwnNumbersAreNames : Type 0
OwnNumbersAreNames =
    (offer : OfferData) (wanted : List ℕ → Bool) (bundle : List ℕ)
    → IsBestByName offer (record { wanted = wanted; name = λ s. s }) bundle
    → IsBestOf (wishes_of offer.menu) offer.price offer.budget offer.allowed wanted bundle

-- at any multipliers a million times the utility of each takable bundle that completes a node by at
-- most so many sections is no more than what can be reached from the node
abbrev pub ReachIsSound : Type 0
ReachIsSound =
    (offer : OfferData) (multipliers : Multipliers) (k : ℕ) (chosen bundle : List ℕ)
    (count most : ℕ)
    → IsMenu offer.menu → IsNode offer k chosen
    → IsTakable offer bundle → Completes offer k chosen bundle
    → length bundle ≤ length chosen + count → Covers offer multipliers k count most
    → (pos 1000000 *ℤ utility (wishes_of offer.menu) bundle)
    ≤ℤ reach_of offer multipliers k (places_of offer.menu chosen) most

-- the same, where the number is of places that cost no more units than are left of the budget, in
-- thousandths
abbrev pub ReachWithinIsSound : Type 0
ReachWithinIsSound =
    (offer : OfferData) (multipliers : Multipliers) (shift k : ℕ) (chosen bundle : List ℕ)
    (count most : ℕ)
    → IsMenu offer.menu → IsNode offer k chosen
    → IsTakable offer bundle → Completes offer k chosen bundle
    → length bundle ≤ length chosen + count
    → CoversWithin offer multipliers shift k count
    (budget_left offer (places_of offer.menu chosen) / 2 ^ shift) most
    → (pos 1000000 *ℤ utility (wishes_of offer.menu) bundle)
    ≤ℤ reach_of offer multipliers k (places_of offer.menu chosen) (1000 * most)

-- where none of a student's prices is lower than before, the first of the best bundles before that
-- is still affordable is the best bundle
abbrev pub FirstWithinIsBest : Type 0
FirstWithinIsBest =
    (wishes : Wishes) (before after : ℕ → ℕ) (budget : ℕ) (allowed : ℕ → Bool)
    (bundles : List (List ℕ)) (bundle : List ℕ) → AreBest wishes before budget allowed bundles
    → ((s : ℕ) → 0 < wishes.rating s → before s ≤ after s)
    → IsFirstWithin after budget bundles bundle → IsBest wishes after budget allowed bundle
