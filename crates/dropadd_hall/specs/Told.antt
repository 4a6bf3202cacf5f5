-- What is told of the hall of a published text.
use Rattle.std.specs.Prelude.{ℕ, ◌≡◌, List}
use Rattle.chronicle.specs.History.{IsLegal, state_after as state_after_steps}
use Rattle.dropadd_desk.specs.declared.command.HallCommand.{HallCommand}
use Rattle.dropadd_desk.specs.declared.shared.HallState.{HallState}
use Rattle.dropadd_desk.specs.Lines.{HallStep}
use Rattle.dropadd_desk.specs.Market.{Market}
use Rattle.dropadd_desk.specs.Shared.{is_sound, reply_to, state_after}
use Rattle.stream_posting.specs.Streams.{MergesCalls}
use Rattle.dropadd_hall.specs.Texts.{hall_text}
use Rattle.market_certificate.specs.Publications.{Publication}
use Rattle.dropadd_hall.specs.Openings.{Opens, opened}

-- The text tells this history, and what is held, waited for and used after it. The history is one
-- that the desk keeps from this state on: each request is replied to as the step of drop and add
-- says, and each session makes its requests in their order, and all of them.
pub record IsToldOf (market : Market) (state : HallState) (streams : List (List HallCommand))
    (history : List HallStep) (told : List ℕ) : Type 0 where
  pub legal : IsLegal is_sound state_after reply_to market state history
  pub merges : MergesCalls streams history
  pub written : told ≡ hall_text market history (state_after_steps state_after market state history)

-- the text tells of a hall that opens with the final bundles of the published text
pub record IsToldHall (market : Market) (streams : List (List HallCommand))
    (text told : List ℕ) : Type 0 where
  pub publication : Publication
  pub opens : Opens market text publication
  pub history : List HallStep
  pub told_of : IsToldOf market (opened market publication) streams history told
