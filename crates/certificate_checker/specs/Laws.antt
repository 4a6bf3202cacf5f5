-- The laws of accepted texts.
use Rattle.std.specs.Prelude.{ℕ, ◌≡◌, ◌<◌, List, [], ◌++◌, length, slice_index, slice_index_or}
use Rattle.budget_draw.specs.Budgets.{budgets_of}
use Rattle.bundle_rules.specs.Demand.{IsBest}
use Rattle.course_catalog.specs.Catalog.{IsCatalog}
use Rattle.student_roll.specs.Students.{IsRoll}
use Rattle.market_certificate.specs.Publications.{ProvedTurn, Publication}
use Rattle.preference_desk.specs.declared.entry.Entry.{Entry}
use Rattle.utility_language.specs.declared.commands.Command.{Command}
use Rattle.published_parts.specs.Allocations.{IsAllocation}
use Rattle.published_parts.specs.Holdings.{AreWithinSeats, demanded, held_after}
use Rattle.published_parts.specs.Journals.{IsJournalOf, wishes_in}
use Rattle.published_parts.specs.Markets.{Market, names_in}
use Rattle.published_parts.specs.Offers.{all_sections}
use Rattle.certificate_checker.specs.declared.findings.Finding.{Finding}
use Rattle.certificate_checker.specs.Certificates.{IsAccepted}
use Rattle.certificate_checker.specs.Findings.{IsFirstFinding}

-- What an accepted text promises to every student, whoever printed it. What a student wants is what
-- all sessions said of it, in the printed order; its budget is the one that the seed draws.
pub record IsOptimal (market : Market) (streams : List (List Command))
    (p : Publication) : Type 0 where
  pub journal : List Entry
  pub is_journal : IsJournalOf (names_in market) streams p.order journal
  pub budgets : p.budgets
      ≡ budgets_of market.roll.students market.settings.seed market.settings.spread
  -- in the second stage each student has the best bundle that its budget buys at the printed
  -- prices: it may take the bundle, and prefers it to every other one that it may take and can pay
  pub stage_two : (student : ℕ) → student < length market.roll.students
      → IsBest (wishes_in market journal student) (slice_index p.prices)
      (slice_index p.budgets student) (all_sections (length market.catalog.sections))
      (slice_index_or (demanded p) student [])
  -- the turns of the aftermarket come in passes, each to the best bundle of what is held and what
  -- is free; in the last pass nobody changes anything; and the final bundles and the used seats are
  -- those behind it
  pub allocation : IsAllocation market journal p
  -- no section has more students than seats: not in the second stage, not after any turn, and not
  -- in the end
  pub seats_in_stage_two : AreWithinSeats market (demanded p)
  pub seats_after_turns : (earlier later : List ProvedTurn) → p.turns ≡ earlier ++ later
      → AreWithinSeats market (held_after (demanded p) earlier)
  pub seats_in_the_end : AreWithinSeats market p.allocation

-- what is accepted is optimal
abbrev pub AcceptedIsOptimal : Type 0
AcceptedIsOptimal =
    (market : Market) (streams : List (List Command)) (text : List ℕ)
    → (accepted : IsAccepted market streams text) → IsOptimal market streams accepted.publication

-- the same order, error and prices of both stages
pub record HaveSamePrices (p q : Publication) : Type 0 where
  pub order : p.order ≡ q.order
  pub start : p.start ≡ q.start
  pub error : p.error ≡ q.error
  pub prices : p.prices ≡ q.prices

-- nothing else in an accepted text is free: two accepted texts with the same order, start, error
-- and price lines are one
abbrev pub OneTextForPrices : Type 0
OneTextForPrices =
    (market : Market) (streams : List (List Command)) (one other : List ℕ)
    → (a : IsAccepted market streams one) (b : IsAccepted market streams other)
    → HaveSamePrices a.publication b.publication → one ≡ other

-- an accepted text has no first finding, where the catalogue and the roll are such as can be read
abbrev pub NoFindingInAccepted : Type 0
NoFindingInAccepted =
    (market : Market) (streams : List (List Command)) (text : List ℕ) (finding : Finding)
    → IsCatalog market.catalog → IsRoll market.roll → IsAccepted market streams text
    → ¬ IsFirstFinding market streams text finding

-- two first findings on one text are one, where the catalogue and the roll are such as can be read
abbrev pub OneFirstFinding : Type 0
OneFirstFinding =
    (market : Market) (streams : List (List Command)) (text : List ℕ) (one other : Finding)
    → IsCatalog market.catalog → IsRoll market.roll → IsFirstFinding market streams text one
    → IsFirstFinding market streams text other → one ≡ other
