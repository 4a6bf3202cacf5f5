-- A desk that is open.
use Rattle.std.specs.Prelude.{ℕ, ◌≡◌, List}
use Rattle.market_units.specs.declared.limits.TheConstants.{MAX_COMMANDS}
use Rattle.dropadd_desk.specs.declared.desk.HallDesk.{HallDesk}
use Rattle.dropadd_desk.specs.Halls.{opening}
use Rattle.dropadd_desk.specs.HallView.{market_of, room_of, state_of}
use Rattle.dropadd_desk.specs.Market.{Market}
use Rattle.dropadd_hall.specs.Faults.{IsFaultless}

-- a desk of this market with room for 200,000 requests, at which students hold these sets, as they
-- may, and nobody waits
pub record IsOpenDesk (market : Market) (held : List (List ℕ)) (desk : HallDesk) : Type 0 where
  pub of : market_of desk ≡ market
  pub state : state_of desk ≡ opening market held
  pub room : room_of desk ≡ MAX_COMMANDS
  pub faultless : IsFaultless market (opening market held)
