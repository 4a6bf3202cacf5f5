-- What there is one of.
use Rattle.std.specs.Prelude.{ℕ, ◌≡◌, List}
use Rattle.bundle_bounds.specs.Offers.{OfferData}
use Rattle.demand_api.specs.Crowds.{CrowdData}
use Rattle.preference_desk.specs.DeskNames.{DeskNames}
use Rattle.preference_desk.specs.declared.entry.Entry.{Entry}
use Rattle.utility_language.specs.declared.commands.Command.{Command}
use Rattle.published_parts.specs.Markets.{Market}
use Rattle.published_parts.specs.Journals.{IsJournalOf}
use Rattle.published_parts.specs.Crowds.{IsCrowdAfter}
use Rattle.published_parts.specs.Offers.{IsProvedBest}

-- an order of these streams has one journal
abbrev pub OneJournal : Type 0
OneJournal =
    (names : DeskNames) (streams : List (List Command)) (order : List ℕ) (one other : List Entry)
    → IsJournalOf names streams order one → IsJournalOf names streams order other → one ≡ other

-- so it has one crowd
abbrev pub OneCrowd : Type 0
OneCrowd =
    (market : Market) (streams : List (List Command)) (order : List ℕ) (one other : CrowdData)
    → IsCrowdAfter market streams order one → IsCrowdAfter market streams order other → one ≡ other

-- an offer has one best bundle, and that has one tree
abbrev pub OneProvedBest : Type 0
OneProvedBest =
    (offer : OfferData) (one other tree alike : List ℕ) → IsProvedBest offer one tree
    → IsProvedBest offer other alike → (one ≡ other) × (tree ≡ alike)
