-- What a desk is seen as.
use Rattle.std.specs.Prelude.{ℕ, ◌≡◌}
use Rattle.held_seats.specs.Floors.{held_on}
use Rattle.dropadd_desk.specs.declared.desk.HallDesk.{HallDesk}
use Rattle.dropadd_desk.specs.declared.reply.HallReply.{HallReply}
use Rattle.dropadd_desk.specs.declared.shared.HallState.{HallState}
use Rattle.dropadd_desk.specs.Market.{Market}

-- the catalogue and the roll that it is for
abbrev pub market_of : HallDesk → Market
market_of desk = desk.rules

-- what is held, and who waits
abbrev pub state_of : HallDesk → HallState
state_of desk = record { held = held_on desk.floor; waiting = desk.lists.lists }

-- how many requests it can still take
abbrev pub room_of : HallDesk → ℕ
room_of desk = desk.left

-- the desk stands so after a step: for the same market, with the same room, and in this state
pub record Becomes (before after : HallDesk) (next : HallState) : Type 0 where
  pub market : market_of after ≡ market_of before
  pub state : state_of after ≡ next
  pub room : room_of after ≡ room_of before

-- a step of the desk has this outcome, for the same market and with the same room: this reply, and
-- the state after it
pub record HasOutcome (before after : HallDesk) (reply : HallReply) (due : HallReply × HallState)
    : Type 0 where
  pub market : market_of after ≡ market_of before
  pub outcome : (reply, state_of after) ≡ due
  pub room : room_of after ≡ room_of before
