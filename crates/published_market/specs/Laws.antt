-- The laws of published markets. The first six are the sentences on what a published text says of
-- students and sections.
use Rattle.std.specs.Prelude.{ℕ, ◌<◌, ◌≤◌, ◌≡◌, ◌^◌, ◌⊎◌, List, [], ◌++◌, length, slice_index, slice_index_or}
use Rattle.market_units.specs.declared.limits.TheConstants.{MAX_SESSIONS}
use Rattle.bundle_rules.specs.Demand.{IsBest}
use Rattle.budget_draw.specs.Budgets.{budgets_of}
use Rattle.course_catalog.specs.Catalog.{IsCatalog}
use Rattle.student_roll.specs.Students.{IsRoll}
use Rattle.market_settings.specs.Settings.{AreInRange}
use Rattle.preference_desk.specs.declared.entry.Entry.{Entry}
use Rattle.utility_language.specs.declared.commands.Command.{Command}
use Rattle.market_certificate.specs.Publications.{IsPublication, ProvedTurn, Publication}
use Rattle.market_certificate.specs.Texts.{text_of}
use Rattle.published_parts.specs.Markets.{Market, names_in, tables_in}
use Rattle.published_parts.specs.Journals.{IsJournalOf, wishes_in}
use Rattle.published_parts.specs.Allocations.{AreBestAtTheirTurns, IsAllocation}
use Rattle.published_parts.specs.Offers.{all_sections}
use Rattle.published_parts.specs.Holdings.{AreWithinSeats, demanded, held_after}
use Rattle.published_market.specs.Publishing.{IsPublished, IsPublishedText, IsUnpriced}

-- the published order has a journal, which merges all sessions' commands
abbrev pub OrderMergesStreams : Type 0
OrderMergesStreams =
    (market : Market) (streams : List (List Command)) (order : List ℕ) (p : Publication)
    → IsPublished market streams order p
    → (p.order ≡ order)
    × ((journal : List Entry) × IsJournalOf (names_in market) streams order journal)

-- each student's budget is its base, what it carried over, and the spread times the rank that the
-- seed draws for it
abbrev pub BudgetsAreDrawn : Type 0
BudgetsAreDrawn =
    (market : Market) (streams : List (List Command)) (order : List ℕ) (p : Publication)
    → IsPublished market streams order p
    → p.budgets ≡ budgets_of market.roll.students market.settings.seed market.settings.spread

-- each student's bundle of the second stage is the best that its budget buys at the published
-- prices: the student may take it, its prices sum to at most the budget, and the student prefers it
-- to every other such bundle of the catalogue's sections
abbrev pub BestWithinBudget : Type 0
BestWithinBudget =
    (market : Market) (streams : List (List Command)) (order : List ℕ) (p : Publication)
    (journal : List Entry)
    → IsPublished market streams order p → IsJournalOf (names_in market) streams order journal
    → (student : ℕ) → student < length market.roll.students
    → IsBest (wishes_in market journal student) (slice_index p.prices)
    (slice_index p.budgets student) (all_sections (length market.catalog.sections))
    (slice_index_or (demanded p) student [])

-- the bundle of each turn is the best that the student's raised budget buys, at the same prices, of
-- the sections that the student holds and of those that are free when its turn comes
abbrev pub BestAtItsTurn : Type 0
BestAtItsTurn =
    (market : Market) (streams : List (List Command)) (order : List ℕ) (p : Publication)
    (journal : List Entry)
    → IsPublished market streams order p → IsJournalOf (names_in market) streams order journal
    → AreBestAtTheirTurns market journal p

-- the turns come in passes, in the last of which nobody changes anything; each student's final
-- bundle is what its last turn left, and the best that it may have in the end; and the used seats
-- are those that the final bundles take
abbrev pub AllocatedInPasses : Type 0
AllocatedInPasses =
    (market : Market) (streams : List (List Command)) (order : List ℕ) (p : Publication)
    (journal : List Entry)
    → IsPublished market streams order p → IsJournalOf (names_in market) streams order journal
    → IsAllocation market journal p

-- no section is above its seats in the bundles of the second stage
abbrev pub StageTwoWithinSeats : Type 0
StageTwoWithinSeats =
    (market : Market) (streams : List (List Command)) (order : List ℕ) (p : Publication)
    → IsPublished market streams order p → AreWithinSeats market (demanded p)

-- no section is above its seats after any turn
abbrev pub TurnsWithinSeats : Type 0
TurnsWithinSeats =
    (market : Market) (streams : List (List Command)) (order : List ℕ) (p : Publication)
    → IsPublished market streams order p
    → (earlier later : List ProvedTurn) → p.turns ≡ earlier ++ later
    → AreWithinSeats market (held_after (demanded p) earlier)

-- no section is above its seats in the final bundles
abbrev pub AllocationWithinSeats : Type 0
AllocationWithinSeats =
    (market : Market) (streams : List (List Command)) (order : List ℕ) (p : Publication)
    → IsPublished market streams order p → AreWithinSeats market p.allocation

-- a market and streams such as can be read: a catalogue, a roll and settings in their ranges, and
-- at most 64 streams
pub record AreInOrder (market : Market) (streams : List (List Command)) : Type 0 where
  pub catalog : IsCatalog market.catalog
  pub roll : IsRoll market.roll
  pub settings : AreInRange market.settings
  pub sessions : length streams ≤ MAX_SESSIONS

-- what is published for inputs in order is a publication in the ranges of the text, where its text
-- is not of 2 ^ 64 bytes or more
abbrev pub PublishedIsPublication : Type 0
PublishedIsPublication =
    (market : Market) (streams : List (List Command)) (order : List ℕ) (p : Publication)
    → AreInOrder market streams → IsPublished market streams order p
    → length (text_of (tables_in market) p) < 2 ^ 64 → IsPublication (tables_in market) p

-- a market publishes one publication for an order
abbrev pub OnePublication : Type 0
OnePublication =
    (market : Market) (streams : List (List Command)) (order : List ℕ) (one other : Publication)
    → IsPublished market streams order one → IsPublished market streams order other → one ≡ other

-- and one text
abbrev pub OnePublishedText : Type 0
OnePublishedText =
    (market : Market) (streams : List (List Command)) (order one other : List ℕ)
    → IsPublishedText market streams order one → IsPublishedText market streams order other
    → one ≡ other

-- where no prices are found, there is one least error
abbrev pub OneLeastError : Type 0
OneLeastError =
    (market : Market) (streams : List (List Command)) (order : List ℕ) (one other : ℕ)
    → IsUnpriced market streams order one → IsUnpriced market streams order other → one ≡ other

-- what is published has prices: it is never that something is published, and that no prices are
-- found
abbrev pub PublishedIsPriced : Type 0
PublishedIsPriced =
    (market : Market) (streams : List (List Command)) (order : List ℕ) (p : Publication) (least : ℕ)
    → IsPublished market streams order p → ¬ IsUnpriced market streams order least

-- for inputs in order, an order with a journal that merges the streams has something published, or
-- a least error that is not accepted
abbrev pub PublishedOrUnpriced : Type 0
PublishedOrUnpriced =
    (market : Market) (streams : List (List Command)) (order : List ℕ) (journal : List Entry)
    → AreInOrder market streams → IsJournalOf (names_in market) streams order journal
    → ((p : Publication) × IsPublished market streams order p)
    ⊎ ((least : ℕ) × IsUnpriced market streams order least)
