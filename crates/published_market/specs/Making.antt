-- What the making of a publication goes by.
use Rattle.std.specs.Prelude.{ℕ, ◌≡◌, ◌<◌, ◌^◌, List, length}
use Rattle.market_units.specs.declared.units.Tokens.{Tokens}
use Rattle.bundle_rules.specs.Ordinals.{IsBundle}
use Rattle.demand_api.specs.Crowds.{CrowdData}
use Rattle.aftermarket_stage.specs.Turns.{TurnData}
use Rattle.market_certificate.specs.Publications.{ProvedTurn}
use Rattle.proof_tree.specs.Alphabets.{AreTreeBytes}
use Rattle.published_market.specs.Turns.{best_of, offer_for}

-- at most 8 sections, ascending, and a tree of one byte or more, each of its alphabet
pub record HasForm (bundle tree : List ℕ) : Type 0 where
  pub is_bundle : IsBundle bundle
  pub bytes : AreTreeBytes tree

-- the same of a turn, and a pass of 64 bits
pub record HasTurnForm (turn : ProvedTurn) : Type 0 where
  pub form : HasForm turn.bundle turn.tree
  pub pass : turn.pass < 2 ^ 64

-- a turn of a student of the crowd, to the best of what is offered to it
pub record IsBestTurn (crowd : CrowdData) (prices : List Tokens) (raise : ℕ)
    (turn : TurnData) : Type 0 where
  pub within : turn.student < length crowd.students
  pub best : turn.bundle ≡ best_of (offer_for crowd prices raise turn)
