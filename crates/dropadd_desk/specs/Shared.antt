-- The desk as an object that sessions share: a session's number plays no part in its steps.
use Rattle.std.specs.Prelude.{ℕ, Bool, true}
use Rattle.dropadd_desk.specs.declared.command.HallCommand.{HallCommand}
use Rattle.dropadd_desk.specs.declared.reply.HallReply.{HallReply}
use Rattle.dropadd_desk.specs.declared.shared.HallState.{HallState}
use Rattle.dropadd_desk.specs.Market.{Market}
use Rattle.dropadd_desk.specs.Step.{step}

-- every request may be made
abbrev pub is_sound : Market → HallCommand → Bool
is_sound market command = true

abbrev pub reply_to : Market → HallState → ℕ → HallCommand → HallReply
reply_to market state seat command = (step market state command).0

abbrev pub state_after : Market → HallState → ℕ → HallCommand → HallState
state_after market state seat command = (step market state command).1
