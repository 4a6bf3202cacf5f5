-- What a published aftermarket comes to: the final bundles and the used seats, whoever publishes
-- them.
use Rattle.std.specs.Prelude.{ℕ, ◌≡◌, ◌<◌, List, [], ◌∷◌, ◌++◌, length, slice_index, slice_index_or}
use Rattle.bundle_rules.specs.Demand.{IsBest}
use Rattle.budget_draw.specs.AfterOrder.{after_order_of}
use Rattle.budget_draw.specs.Budgets.{raised_by}
use Rattle.held_seats.specs.Choices.{may_choose}
use Rattle.preference_desk.specs.declared.entry.Entry.{Entry}
use Rattle.market_certificate.specs.Publications.{ProvedTurn, Publication}
use Rattle.published_parts.specs.Holdings.{demanded, held_after, used_of}
use Rattle.published_parts.specs.Journals.{wishes_in}
use Rattle.published_parts.specs.Markets.{Market, seats_in}
use Rattle.published_parts.specs.Passes.{ComeInPasses, IsLastTurn}

-- The bundle is the best that the student may have where all students hold these bundles: the best
-- that its raised budget buys, at the prices of the second stage, of the sections that it holds and
-- of those that are free.
abbrev pub IsBestThere : Market → List Entry → Publication → List (List ℕ) → ℕ → List ℕ → Type 0
IsBestThere market journal p held student bundle =
    IsBest (wishes_in market journal student) (slice_index p.prices)
    (raised_by market.settings.raise (slice_index p.budgets student))
    (may_choose (seats_in market) held student) bundle

-- at each turn the student gets the best bundle that it may have at that turn
abbrev pub AreBestAtTheirTurns : Market → List Entry → Publication → Type 0
AreBestAtTheirTurns market journal p =
    (earlier later : List ProvedTurn) (turn : ProvedTurn) → p.turns ≡ earlier ++ turn ∷ later
    → IsBestThere market journal p (held_after (demanded p) earlier) turn.student turn.bundle

-- the final bundle of a student is what its last turn left
pub record IsLeft (p : Publication) (student : ℕ) : Type 0 where
  pub turn : ProvedTurn
  pub last : IsLastTurn student p.turns turn
  pub final : slice_index_or p.allocation student [] ≡ turn.bundle

-- What is told of an aftermarket, where a student wants what it wants after the journal.
pub record IsAllocation (market : Market) (journal : List Entry) (p : Publication) : Type 0 where
  -- the turns come in passes: in each pass each student has one turn, by budget before any raise,
  -- the greatest first; and in the last pass, and in no other, nobody changes anything
  pub passes : ComeInPasses (after_order_of p.budgets) (demanded p) p.turns
  pub turns : AreBestAtTheirTurns market journal p
  -- each student's final bundle is what its last turn left
  pub left : (student : ℕ) → student < length market.roll.students → IsLeft p student
  -- and it is the best that the student may have in the end, of what it holds and of what is free
  pub best : (student : ℕ) → student < length market.roll.students
      → IsBestThere market journal p p.allocation student (slice_index_or p.allocation student [])
  -- of each section is told how many of the final bundles have it, and its seats
  pub used : p.used ≡ used_of (seats_in market) p.allocation
