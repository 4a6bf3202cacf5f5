-- The laws of explanations.
use Rattle.std.specs.Prelude.{ℕ, ◌≤ℤ◌, ◌≡◌, ◌↔◌, Bool, true, false, Some, List}
use Rattle.bundle_rules.specs.Demand.{IsBest}
use Rattle.bundle_rules.specs.Given.{IsBestWith, SomeHas}
use Rattle.bundle_rules.specs.Menus.{IsMenu, MenuData, place_in, wishes_of, worth}
use Rattle.market_units.specs.Members.{has}
use Rattle.bundle_rules.specs.Wishes.{Wishes}
use Rattle.bundle_bounds.specs.Laws.{IsTakable}
use Rattle.bundle_bounds.specs.Offers.{OfferData}
use Rattle.proof_tree.specs.Texts.{IsTreeText}
use Rattle.explain_desk.specs.declared.reasons.Reason.{Reason}
use Rattle.explain_desk.specs.Reasons.{IsReason, tells_best}
use Rattle.explain_desk.specs.Explanations.{ExplainedData, IsExplained, IsProvedWith}
use Rattle.market_certificate.specs.Publications.{Proved}

-- at most one reason is the first that applies
abbrev pub OneReason : Type 0
OneReason =
    (wishes : Wishes) (price : ℕ → ℕ) (budget : ℕ) (bundle : List ℕ) (section : ℕ)
    (one other : Reason)
    → IsReason wishes price budget bundle section one
    → IsReason wishes price budget bundle section other → one ≡ other

-- for every offered section that the bundle lacks: some choice has it exactly where the reason is
-- one that leaves a bundle with it (`tells_best`)
abbrev pub ReasonsLeaveABundle : Type 0
ReasonsLeaveABundle =
    (menu : MenuData) (price : ℕ → ℕ) (budget : ℕ) (allowed : ℕ → Bool) (bundle : List ℕ)
    (section : ℕ) (reason : Reason)
    → allowed section ≡ true → has bundle section ≡ false
    → IsReason (wishes_of menu) price budget bundle section reason
    → SomeHas (wishes_of menu) price budget allowed section ↔ (tells_best reason ≡ true)

-- a takable champion with the section has a forced tree exactly where it is the best bundle with
-- the section
abbrev pub ForcedTreesProveTheBest : Type 0
ForcedTreesProveTheBest =
    (offer : OfferData) (champion : List ℕ) (section : ℕ) → IsMenu offer.menu
    → IsTakable offer champion
    → has champion section ≡ true
    → ((text : List ℕ) × IsTreeText offer (Some (place_in offer.menu.places section)) champion text)
    ↔ IsBestWith (wishes_of offer.menu) offer.price offer.budget offer.allowed section champion

-- a student is told one thing of a section
abbrev pub OneExplanation : Type 0
OneExplanation =
    (offer : OfferData) (bundle : List ℕ) (section : ℕ) (one other : ExplainedData)
    → IsMenu offer.menu
    → IsExplained offer bundle section one → IsExplained offer bundle section other → one ≡ other

-- a student gains nothing of utility by the best bundle with a section: what is told as lost is at
-- least 0
abbrev pub NothingIsGained : Type 0
NothingIsGained =
    (offer : OfferData) (bundle : List ℕ) (section : ℕ) (proved : Proved)
    → IsBest (wishes_of offer.menu) offer.price offer.budget offer.allowed bundle
    → IsProvedWith offer section proved
    → worth offer.menu proved.bundle ≤ℤ worth offer.menu bundle
