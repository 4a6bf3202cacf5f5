-- The status of each trouble, and the number of each status.
use Rattle.std.specs.Prelude.{ℕ}
use Rattle.market_host.specs.declared.status.Status.{Status}
use Rattle.market_host.specs.declared.status.Status.TheVariants.{Done, Usage, ShelfFault, Refused, TooLong, NoPrices, Found, Unknown, SinkFault, OutOfMemory}
use Rattle.market_host.specs.declared.trouble.Trouble.{Trouble}
use Rattle.market_host.specs.declared.trouble.Trouble.TheVariants as trouble

-- the status of a call that this trouble stops
abbrev pub status_of : Trouble → Status
status_of (trouble.ShelfFault number) = ShelfFault number
status_of (trouble.Refused number row cause) = Refused number row cause
status_of (trouble.TooLong number) = TooLong number
status_of trouble.OutOfMemory = OutOfMemory

-- the number with which the process ends at a status
abbrev pub number_of : Status → ℕ
number_of Done = 0
number_of Usage = 1
number_of (ShelfFault input) = 2
number_of (Refused input row cause) = 3
number_of (TooLong input) = 4
number_of (NoPrices least) = 5
number_of SinkFault = 6
number_of OutOfMemory = 7
number_of (Found finding) = 8
number_of (Unknown word) = 9
