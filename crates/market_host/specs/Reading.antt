-- What stops the reading of an input.
use Rattle.std.specs.Prelude.{ℕ, ◌≡◌, ◌+◌, ◌<◌, List, ⊤}
use Rattle.market_edge.specs.Holdings.{TakesExactly}
use Rattle.market_host.specs.declared.cause.Cause.{Cause}
use Rattle.market_host.specs.declared.trouble.Trouble.{Trouble}
use Rattle.market_host.specs.declared.trouble.Trouble.TheVariants.{ShelfFault, Refused, TooLong, OutOfMemory}
use Rattle.market_host.specs.Sessions.{command_count}
use Rattle.market_host.specs.Sights.{Sight}
use Rattle.market_host.specs.Troubles.{IsFailed}

-- an input of this name, number and limit was not read
abbrev pub IsUnread : ℕ → Sight → List ℕ → ℕ → Trouble → Type 0
IsUnread limit seen name number (ShelfFault n) = (n ≡ number) × IsFailed limit seen name
IsUnread limit seen name number (TooLong n) =
    (n ≡ number) × TakesExactly (limit + 1) seen.held name seen.left
IsUnread limit seen name number (Refused n row cause) = ⊥
IsUnread limit seen name number OutOfMemory = ⊤

-- the input of this number is refused with a row and a cause that are so, or there is no memory for
-- what it says
abbrev pub IsRefusal : (ℕ → Cause → Type 0) → ℕ → Trouble → Type 0
IsRefusal IsSo number (Refused n row cause) = (n ≡ number) × IsSo row cause
IsRefusal IsSo number OutOfMemory = ⊤
IsRefusal IsSo number (ShelfFault n) = ⊥
IsRefusal IsSo number (TooLong n) = ⊥

-- the session of this number has more commands than there is room for, or there is no memory for
-- them
abbrev pub IsSurplus : List ℕ → ℕ → ℕ → Trouble → Type 0
IsSurplus text room number (TooLong n) = (n ≡ number) × (room < command_count text)
IsSurplus text room number OutOfMemory = ⊤
IsSurplus text room number (ShelfFault n) = ⊥
IsSurplus text room number (Refused n row cause) = ⊥
