-- What the field of one column may say.
use Rattle.std.specs.Prelude.{ℕ, Bool, ◌&&◌, List, length, Option, Some, None, Result, Ok, Err, if◌then◌else◌, nat_lt, nat_le}
use Rattle.std.specs.Fmt.{decimal}
use Rattle.std.specs.List.{list_all}
use Rattle.std.specs.Str.{bytes_eq}
use Rattle.std.specs.Str.Parse.{digits_value}
use Rattle.market_units.specs.declared.limits.TheConstants.{MAX_NAME}
use Rattle.market_units.specs.Names.{is_name_byte}

-- whether bytes are a name: 1 to 32 letters, digits, dashes, underscores and dots
abbrev pub is_name : List ℕ → Bool
is_name bytes =
    nat_lt 0 (length bytes) && nat_le (length bytes) MAX_NAME && list_all is_name_byte bytes

-- the name that bytes are
abbrev pub name_of : List ℕ → Option (List ℕ)
name_of bytes = if is_name bytes then Some bytes else None

-- the number at most max whose decimal spelling, without sign and leading zeros, the bytes are
abbrev pub number_of : ℕ → List ℕ → Option ℕ
number_of max bytes =
    let n = digits_value 10 bytes in
    if bytes_eq bytes (decimal n) && nat_le n max then Some n else None

-- what a column says, or else this refusal
abbrev pub or_refused : {A E : Type 0} → E → Option A → Result A E
or_refused refusal None = Err refusal
or_refused refusal (Some a) = Ok a

-- the number that a column says, or else this refusal
abbrev pub number_or : {E : Type 0} → E → ℕ → List ℕ → Result ℕ E
number_or refusal max bytes = or_refused refusal (number_of max bytes)

-- the name that a column says, or else this refusal
abbrev pub name_or : {E : Type 0} → E → List ℕ → Result (List ℕ) E
name_or refusal bytes = or_refused refusal (name_of bytes)

-- what a column says, and then what follows from it; the first refusal stays
infixl 10 ◌>>=◌
abbrev pub ◌>>=◌ : {A B E : Type 0} → Result A E → (A → Result B E) → Result B E
(Ok a) >>= follows = follows a
(Err refusal) >>= follows = Err refusal
