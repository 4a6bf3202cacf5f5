-- What is printed of each student, and what is offered to it.
use Rattle.std.specs.Prelude.{ℕ, ◌≡◌, ◌≤◌, true, None, List, [], slice_index, slice_index_or}
use Rattle.market_units.specs.Totals.{total}
use Rattle.bundle_bounds.specs.Offers.{OfferData}
use Rattle.bundle_rules.specs.Menus.{wishes_of}
use Rattle.market_units.specs.Members.{has}
use Rattle.bundle_rules.specs.Wishes.{IsFeasible}
use Rattle.demand_api.specs.Crowds.{CrowdData}
use Rattle.market_certificate.specs.Publications.{Proved, Publication}
use Rattle.proof_tree.specs.Texts.{IsTreeText}
use Rattle.published_parts.specs.Offers.{all_sections, offer_to, student_in}

-- the bundle and the tree that are printed for it in the second stage
abbrev pub proved_in : Publication → ℕ → Proved
proved_in p student = slice_index_or p.bundles student (record { bundle = []; tree = [] })

-- its budget is the printed one
abbrev pub HasBudget : CrowdData → Publication → ℕ → Type 0
HasBudget crowd p student = slice_index p.budgets student ≡ (student_in crowd student).budget

-- what is offered to it in the second stage: all sections at the printed prices, for its budget
abbrev pub offer_in : CrowdData → Publication → ℕ → OfferData
offer_in crowd p student =
    offer_to (student_in crowd student) (slice_index p.prices) (student_in crowd student).budget
    (all_sections crowd.sections)

-- the prices of the bundle sum to at most the budget
abbrev pub IsAffordable : OfferData → List ℕ → Type 0
IsAffordable offer bundle = total offer.price bundle ≤ offer.budget

-- the student may take the bundle, by its ratings and caps and by what clashes
abbrev pub MayTake : OfferData → List ℕ → Type 0
MayTake offer bundle = IsFeasible (wishes_of offer.menu) bundle

-- each section of the bundle is among those that are offered
abbrev pub IsOffered : OfferData → List ℕ → Type 0
IsOffered offer bundle = (s : ℕ) → has bundle s ≡ true → offer.allowed s ≡ true

-- its bundle of the second stage is affordable and feasible, and the tree is the bundle's
pub record IsProvedBundle (crowd : CrowdData) (p : Publication) (student : ℕ) : Type 0 where
  pub affordable : IsAffordable (offer_in crowd p student) (proved_in p student).bundle
  pub feasible : MayTake (offer_in crowd p student) (proved_in p student).bundle
  pub proved : IsTreeText (offer_in crowd p student) None (proved_in p student).bundle
      (proved_in p student).tree
