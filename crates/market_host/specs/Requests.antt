-- What the sessions of a hall say: requests, whose streams are read as sessions are.
use Rattle.std.specs.Prelude.{ℕ, List}
use Rattle.std.specs.List.{AllZip}
use Rattle.dropadd_desk.specs.declared.command.HallCommand.{HallCommand}
use Rattle.dropadd_hall.specs.Requests.{AreRequests}
use Rattle.market_host.specs.Sessions.{session_text}

-- the requests of each session
abbrev pub AreRequestStreams : List (List ℕ) → List (List HallCommand) → Type 0
AreRequestStreams sessions streams =
    AllZip (λ session requests. AreRequests (session_text session) requests) sessions streams
