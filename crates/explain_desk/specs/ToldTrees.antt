-- The tree that is told of an accepted text, and what else could have one.
use Rattle.std.specs.Prelude.{ℕ, ◌≡◌, ◌<◌, true, Some, List, length, slice_index}
use Rattle.bundle_rules.specs.Demand.{IsChoice}
use Rattle.bundle_rules.specs.Menus.{place_in}
use Rattle.certificate_checker.specs.Students.{offer_in}
use Rattle.demand_api.specs.Crowds.{CrowdData}
use Rattle.market_certificate.specs.Publications.{Proved, Publication}
use Rattle.market_units.specs.Members.{has}
use Rattle.preference_desk.specs.declared.entry.Entry.{Entry}
use Rattle.proof_tree.specs.Texts.{IsTreeText}
use Rattle.published_parts.specs.Journals.{IsJournalOf, wishes_in}
use Rattle.published_parts.specs.Markets.{Market, names_in}
use Rattle.published_parts.specs.Offers.{all_sections}
use Rattle.utility_language.specs.declared.commands.Command.{Command}
use Rattle.explain_desk.specs.Told.{IsToldOf}

-- the student may take the bundle, by what it wants after the journal; its printed budget pays it
-- at the printed prices of the second stage; and the section is in it
pub record CanHaveWith (market : Market) (journal : List Entry) (p : Publication)
    (student section : ℕ) (bundle : List ℕ) : Type 0 where
  pub choice : IsChoice (wishes_in market journal student) (slice_index p.prices)
      (slice_index p.budgets student) (all_sections (length market.catalog.sections)) bundle
  pub member : has bundle section ≡ true

-- the text is that of the bundle's forced tree, by what is offered to the student in the second
-- stage and with the section
abbrev pub IsForcedTree : CrowdData → Publication → ℕ → ℕ → List ℕ → List ℕ → Type 0
IsForcedTree crowd p student section bundle text =
    let offer = offer_in crowd p student in
    IsTreeText offer (Some (place_in offer.menu.places section)) bundle text

-- What a told tree promises, whoever printed the text. What the student wants is what all sessions
-- said of it, in the printed order. The student can have the told bundle, and the told tree is the
-- bundle's. Of all bundles with the section that the student can have, no other has a forced tree,
-- and this one has no other.
pub record IsOnlyTree (market : Market) (streams : List (List Command)) (p : Publication)
    (crowd : CrowdData) (student section : ℕ) (told : Proved) : Type 0 where
  pub journal : List Entry
  pub is_journal : IsJournalOf (names_in market) streams p.order journal
  pub can_have : CanHaveWith market journal p student section told.bundle
  pub tree : IsForcedTree crowd p student section told.bundle told.tree
  pub only : (bundle text : List ℕ) → CanHaveWith market journal p student section bundle
      → IsForcedTree crowd p student section bundle text
      → (bundle ≡ told.bundle) × (text ≡ told.tree)

-- the tree that is told of a student of an accepted text is the only one
abbrev pub ToldTreeIsTheOnlyOne : Type 0
ToldTreeIsTheOnlyOne =
    (market : Market) (streams : List (List Command)) (published : List ℕ) (student section : ℕ)
    (text : List ℕ) (told_of : IsToldOf market streams published student section text)
    → student < length market.roll.students
    → (told : Proved) → told_of.is_told.0.best ≡ Some told
    → IsOnlyTree market streams told_of.publication told_of.crowd student section told
