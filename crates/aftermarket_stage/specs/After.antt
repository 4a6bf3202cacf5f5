-- What an aftermarket is asked of, and the turns that were made, as plain data.
use Rattle.std.specs.Prelude.{ℕ, List, map}
use Rattle.std.specs.FinSet as set
use Rattle.market_units.specs.declared.units.Tokens.{Tokens}
use Rattle.bundle_rules.specs.Bundles.{sections_of}
use Rattle.demand_api.specs.declared.crowd.Crowd.{Crowd}
use Rattle.demand_api.specs.Views.{data_of}
use Rattle.aftermarket_stage.specs.declared.terms.Terms as declared
use Rattle.aftermarket_stage.specs.declared.turns.Turn.{Turn}
use Rattle.aftermarket_stage.specs.Turns.{Terms, TurnData}

-- the terms of a crowd with these seats, prices and raise
abbrev pub terms_of : Crowd → List ℕ → List Tokens → ℕ → Terms
terms_of crowd seats prices raise =
    record {
      crowd = data_of crowd;
      seats = seats;
      prices = prices;
      raise = raise;
    }

-- terms as plain data
abbrev pub terms_in : declared.Terms → Terms
terms_in terms = terms_of terms.crowd.now terms.seats.now terms.prices.now terms.raise

-- a turn as plain data
abbrev pub turn_of : Turn → TurnData
turn_of turn =
    record {
      pass = turn.pass;
      student = turn.student.0;
      allowed = set.contains turn.allowed;
      bundle = sections_of turn.bundle;
    }

-- these turns as plain data, in their order
abbrev pub turns_of : List Turn → List TurnData
turns_of turns = map turn_of turns
