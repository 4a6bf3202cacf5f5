-- The turns of the aftermarket: what is the best that may be chosen at a turn, and what is held
-- after it. Held bundles stand in file order.
use Rattle.std.specs.Prelude.{ℕ, ◌≡◌, Bool, List, [], ◌∷◌, Some, slice_get, slice_set, ⊤}
use Rattle.market_units.specs.declared.units.Tokens.{Tokens}
use Rattle.bundle_rules.specs.Menus.{wishes_of}
use Rattle.bundle_rules.specs.Demand.{price_in, IsBest}
use Rattle.held_seats.specs.Choices.{may_choose}
use Rattle.budget_draw.specs.Budgets.{raised_by}
use Rattle.demand_api.specs.Crowds.{Student, CrowdData}

-- what the aftermarket goes by: the crowd with its budgets before any raise, the seats and the
-- stage-two price of each section, and the raise in percent
pub record Terms : Type 0 where
  pub crowd : CrowdData
  pub seats : List ℕ
  pub prices : List Tokens
  pub raise : ℕ

-- a turn: its pass, its student, which sections the student may choose, and the bundle that it then
-- holds
pub record TurnData : Type 0 where
  pub pass : ℕ
  pub student : ℕ
  pub allowed : ℕ → Bool
  pub bundle : List ℕ

-- the bundle is the best within the student's raised budget of held and free sections, at the same
-- prices
pub record IsTurn (terms : Terms) (held : List (List ℕ)) (turn : TurnData) : Type 0 where
  pub who : Student
  pub listed : slice_get terms.crowd.students turn.student ≡ Some who
  pub choices : turn.allowed ≡ may_choose terms.seats held turn.student
  pub best : IsBest (wishes_of who.menu) (price_in terms.prices) (raised_by terms.raise who.budget)
      turn.allowed turn.bundle

-- what is held after a turn: the student holds the turn's bundle, and the others what they held
abbrev pub after_turn : List (List ℕ) → TurnData → List (List ℕ)
after_turn held turn = slice_set held turn.student turn.bundle

-- what is held after these turns
abbrev pub after_turns : List (List ℕ) → List TurnData → List (List ℕ)
after_turns held [] = held
after_turns held (turn ∷ turns) = after_turns (after_turn held turn) turns

-- each turn is as wanted where it stands, by what is held before it
abbrev pub EachTurn : (List (List ℕ) → TurnData → Type 0) → List (List ℕ) → List TurnData → Type 0
EachTurn Wanted held [] = ⊤
EachTurn Wanted held (turn ∷ turns) =
    Wanted held turn × EachTurn Wanted (after_turn held turn) turns

-- a turn without a change: the student's bundle is the one that it holds
abbrev pub IsQuiet : List (List ℕ) → TurnData → Type 0
IsQuiet held turn = slice_get held turn.student ≡ Some turn.bundle
