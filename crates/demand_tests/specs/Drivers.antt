-- A board that is worked in one thread.
use Rattle.std.specs.Prelude.{ℕ, ◌≡◌, ◌<◌, ◌≤◌, Option, Some, None, List, length, slice_index_or}
use Rattle.std.proofs.Common.{Vec, Global}
use Rattle.market_units.specs.declared.units.Tokens.{Tokens}
use Rattle.demand_api.specs.declared.crowd.Crowd.{Crowd}
use Rattle.demand_api.specs.Views.{data_of}
use Rattle.demand_workers.specs.Rounds.{prices_of, AreVersionsFor}
use Rattle.price_board.specs.declared.drawn.Draw.{Draw}
use Rattle.price_board.specs.Asked.{round_rules}
use Rattle.price_board.specs.Rows.{number_drawn}
use Rattle.price_board.specs.Seats.{RoundBoard, RoundSeat, HoldsNothing, IsSeatOf}
use Rattle.price_board.specs.Terms.{task_count}
use Rattle.task_board.specs.Seats.{dones, posts}
use Rattle.task_board.specs.Turns.{HoldsDrawn}

-- what a worker holds, by what it drew after its last post
abbrev pub HoldsSince : RoundBoard → Option Draw → RoundSeat → Type 0
HoldsSince board None seat = HoldsNothing board seat × (dones seat.own ≡ 0)
HoldsSince board (Some drawn) seat =
    HoldsDrawn round_rules board (number_drawn drawn) seat

-- the worker with this number, what it drew since it posted last, and how often it posted
pub record IsWorker (board : RoundBoard) (n : ℕ) (seat : RoundSeat)
    (note : Option Draw × ℕ) : Type 0 where
  pub number : seat.number ≡ n
  pub is_seat : IsSeatOf board seat
  pub holds : HoldsSince board note.0 seat
  pub posts : posts seat.own ≡ note.1

-- a board of so many tasks at least, of a crowd at versions of prices, with all its seats, and what
-- is noted of each
pub record IsDriven (board : RoundBoard) (crowd : Crowd) (versions : List (Vec Tokens Global))
    (least : ℕ) (seats : List RoundSeat) (notes : List (Option Draw × ℕ)) : Type 0 where
  pub its_crowd : board.base.crowd ≡ data_of crowd
  pub each_student : board.base.list ≡ None
  pub its_versions : board.base.versions ≡ prices_of versions
  pub prices : AreVersionsFor (data_of crowd) versions
  pub tasks : least ≤ task_count board.base
  pub all : length board.allotments ≡ length seats
  pub noted : length notes ≡ length seats
  pub each : (n : ℕ) (seat : RoundSeat) (note : Option Draw × ℕ) → n < length seats
      → IsWorker board n (slice_index_or seats n seat) (slice_index_or notes n note)
