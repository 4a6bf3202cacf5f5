-- The lines of calls that are stopped.
use Rattle.std.specs.Prelude.{ℕ, List, ◌++◌, codes}
use Rattle.std.specs.Fmt.{decimal}
use Rattle.market_settings.specs.Keys.{key_name}
use Rattle.market_host.specs.declared.cause.Cause.{Cause}
use Rattle.market_host.specs.declared.cause.Cause.TheVariants.{Header, Fields, Name, Repeated, Number, Meetings, Parts, TooMany, NotJson, NotObject, Missing, Unknown, Range}
use Rattle.market_host.specs.declared.trouble.Trouble.{Trouble}
use Rattle.market_host.specs.declared.trouble.Trouble.TheVariants.{ShelfFault, Refused, TooLong, OutOfMemory}

-- the words of a cause
abbrev pub cause_words : Cause → List ℕ
cause_words Header = codes "header"
cause_words Fields = codes "fields"
cause_words (Name column) = codes "name in column " ++ decimal column
cause_words (Repeated earlier) = codes "repeats row " ++ decimal earlier
cause_words (Number column) = codes "number in column " ++ decimal column
cause_words Meetings = codes "meetings"
cause_words Parts = codes "parts"
cause_words TooMany = codes "too many rows"
cause_words NotJson = codes "not json"
cause_words NotObject = codes "not an object"
cause_words (Missing key) = codes "missing " ++ key_name key
cause_words Unknown = codes "unknown key"
cause_words (Range key) = codes "range of " ++ key_name key

-- the line of words that have no form
abbrev pub usage_line : List ℕ
usage_line = codes "usage: run, check, prefer, demand, quote, make, explain, hall, audit\n"

-- the line that says that no prices are found, with the least error
abbrev pub no_prices_line : ℕ → List ℕ
no_prices_line least = codes "no prices: least error " ++ decimal least ++ codes "\n"

-- the line that says which word of the command line names nothing
abbrev pub unknown_line : ℕ → List ℕ
unknown_line word = codes "no such name: word " ++ decimal word ++ codes "\n"

-- the line that says what stops a call
abbrev pub line_of : Trouble → List ℕ
line_of (ShelfFault input) = codes "input " ++ decimal input ++ codes " can not be read\n"
line_of (Refused input row cause) =
    codes "input " ++ decimal input ++ codes " row " ++ decimal row ++ codes ": "
    ++ cause_words cause ++ codes "\n"
line_of (TooLong input) = codes "input " ++ decimal input ++ codes " is too long\n"
line_of OutOfMemory = codes "out of memory\n"
