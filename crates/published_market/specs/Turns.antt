-- Turns of the aftermarket, as they are published.
use Rattle.std.specs.Prelude.{ℕ, ◌≡◌, false, Some, List, [], slice_get}
use Rattle.std.specs.FinSet as set
use Rattle.std.specs.Ordering.{nat_cmp}
use Rattle.market_units.specs.declared.units.Tokens.{Tokens}
use Rattle.bundle_rules.specs.Best.{best}
use Rattle.bundle_rules.specs.Demand.{price_in}
use Rattle.bundle_rules.specs.Menus.{MenuData}
use Rattle.bundle_bounds.specs.Offers.{OfferData, offer_of}
use Rattle.budget_draw.specs.Budgets.{raised_by}
use Rattle.demand_api.specs.Crowds.{CrowdData, Student}
use Rattle.aftermarket_stage.specs.Turns.{TurnData}
use Rattle.market_certificate.specs.Publications.{ProvedTurn}
use Rattle.published_parts.specs.Offers.{IsProvedBest, offer_to, student_in}

-- no turn: it stands for the turn of a number that no turn has
abbrev pub no_turn : TurnData
no_turn = record { pass = 0; student = 0; allowed = λ s. false; bundle = [] }

-- what a student takes of an offer: the best bundle
abbrev pub best_of : OfferData → List ℕ
best_of offer = best offer.menu offer.price offer.budget offer.allowed

-- the same of a menu at prices, within a budget, of the sections of a set
abbrev pub best_in : MenuData → List Tokens → ℕ → set.FinSet nat_cmp → List ℕ
best_in menu prices budget allowed = best_of (offer_of menu prices budget allowed)

-- what is offered to a student at a turn: the sections that it may choose, at the same prices, with
-- its raised budget
abbrev pub offer_at : List Tokens → ℕ → Student → TurnData → OfferData
offer_at prices raise student turn =
    offer_to student (price_in prices) (raised_by raise student.budget) turn.allowed

-- what is offered at a turn to its student, who is one of a crowd
abbrev pub offer_for : CrowdData → List Tokens → ℕ → TurnData → OfferData
offer_for crowd prices raise turn = offer_at prices raise (student_in crowd turn.student) turn

-- a turn as it is published: its pass, its student and its bundle, which is the best of what is
-- offered, with the bundle's tree
pub record IsPublishedTurn (crowd : CrowdData) (prices : List Tokens) (raise : ℕ) (turn : TurnData)
    (published : ProvedTurn) : Type 0 where
  pub pass : published.pass ≡ turn.pass
  pub student : published.student ≡ turn.student
  pub bundle : published.bundle ≡ turn.bundle
  pub who : Student
  pub listed : slice_get crowd.students turn.student ≡ Some who
  pub proved : IsProvedBest (offer_at prices raise who turn) published.bundle published.tree
