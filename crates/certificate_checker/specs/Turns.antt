-- The printed turns of the aftermarket. Turns, passes and the places in a pass are numbered here
-- from 0.
use Rattle.std.specs.Prelude.{ℕ, ◌≡◌, ◌<◌, ◌≤◌, ◌+◌, ◌*◌, None, Some, List, [], length, map, slice_get, slice_index, slice_index_or, take}
use Rattle.budget_draw.specs.AfterOrder.{after_order_of}
use Rattle.budget_draw.specs.Budgets.{raised_by}
use Rattle.bundle_bounds.specs.Offers.{OfferData}
use Rattle.demand_api.specs.Crowds.{CrowdData}
use Rattle.market_certificate.specs.Publications.{ProvedTurn, Publication}
use Rattle.proof_tree.specs.Texts.{IsTreeText}
use Rattle.published_parts.specs.Holdings.{demanded, held_after}
use Rattle.held_seats.specs.Choices.{may_choose}
use Rattle.published_parts.specs.Offers.{offer_to, student_in}
use Rattle.certificate_checker.specs.Terms.{TermsData}
use Rattle.certificate_checker.specs.Firsts.{AllBelow}
use Rattle.certificate_checker.specs.Students.{IsAffordable, IsOffered, MayTake}

-- the printed turn of a number
abbrev pub turn_in : Publication → ℕ → ProvedTurn
turn_in p turn =
    slice_index_or p.turns turn (record { pass = 0; student = 0; bundle = []; tree = [] })

-- what all students hold before it
abbrev pub held_before : Publication → ℕ → List (List ℕ)
held_before p turn = held_after (demanded p) (take turn p.turns)

-- a turn without a change: its bundle is the one that its student holds
abbrev pub IsQuietTurn : Publication → ℕ → Type 0
IsQuietTurn p turn =
    slice_index_or (held_before p turn) (turn_in p turn).student [] ≡ (turn_in p turn).bundle

-- a pass without a change, where there are so many students
abbrev pub IsQuietPass : ℕ → Publication → ℕ → Type 0
IsQuietPass students p pass = AllBelow students (λ place. IsQuietTurn p (pass * students + place))

-- some whole pass among the first turns is without a change
pub record HasQuietPass (students : ℕ) (p : Publication) (turns : ℕ) : Type 0 where
  pub pass : ℕ
  pub whole : (pass + 1) * students ≤ turns
  pub quiet : IsQuietPass students p pass

-- the students in the order of each pass: by budget before any raise, the greatest first
abbrev pub order_in : CrowdData → List ℕ
order_in crowd = after_order_of (map (λ student. student.budget) crowd.students)

-- A turn is the due one: it has its pass, which is printed from 1, and the student who is next in
-- it. No turn is due behind a whole pass without a change.
pub record IsDue (crowd : CrowdData) (p : Publication) (turn : ℕ) : Type 0 where
  pub pass : ℕ
  pub place : ℕ
  pub number : turn ≡ pass * length crowd.students + place
  pub in_pass : (turn_in p turn).pass ≡ pass + 1
  pub next : slice_get (order_in crowd) place ≡ Some (turn_in p turn).student
  pub goes_on : ¬ HasQuietPass (length crowd.students) p turn

-- what is offered at a turn: the sections that the student holds and those that are free, at the
-- prices of the second stage, for its raised budget
abbrev pub turn_offer : TermsData → Publication → ℕ → OfferData
turn_offer terms p turn =
    let number = (turn_in p turn).student in
    let student = student_in terms.crowd number in
    offer_to student (slice_index p.prices) (raised_by terms.raise student.budget)
    (may_choose terms.seats (held_before p turn) number)

-- a turn is due, its bundle affordable, feasible and of what is offered, and the tree is the
-- bundle's
pub record IsRightTurn (terms : TermsData) (p : Publication) (turn : ℕ) : Type 0 where
  pub due : IsDue terms.crowd p turn
  pub affordable : IsAffordable (turn_offer terms p turn) (turn_in p turn).bundle
  pub feasible : MayTake (turn_offer terms p turn) (turn_in p turn).bundle
  pub offered : IsOffered (turn_offer terms p turn) (turn_in p turn).bundle
  pub proved : IsTreeText (turn_offer terms p turn) None (turn_in p turn).bundle
      (turn_in p turn).tree

-- where there are students, some whole pass is without a change
abbrev pub EndsQuietly : CrowdData → Publication → Type 0
EndsQuietly crowd p =
    0 < length crowd.students → HasQuietPass (length crowd.students) p (length p.turns)
