-- The laws of numbers, names and subsets.
use Rattle.std.specs.Prelude.{ℕ, ◌≡◌, ◌≢◌, ◌<◌, ◌^◌, ◌⊎◌, Bool, true, List, length}
use Rattle.std.specs.Fmt.{decimal}
use Rattle.market_units.specs.declared.names.Name.{Name}
use Rattle.market_units.specs.Name.{name_bytes}
use Rattle.market_units.specs.Subsets.{earlier}

-- two names of equal bytes are equal
abbrev pub EqualBytesEqualNames : Type 0
EqualBytesEqualNames = (a b : Name) → name_bytes a ≡ name_bytes b → a ≡ b

-- two numbers of equal spelling are equal, so that what is written is read as what it was
abbrev pub OneNumberASpelling : Type 0
OneNumberASpelling = (m n : ℕ) → m < 2 ^ 64 → n < 2 ^ 64 → decimal m ≡ decimal n → m ≡ n

-- of two different subsets of the same places, one is earlier
abbrev pub OneIsEarlier : Type 0
OneIsEarlier =
    (as' bs : List Bool) → length as' ≡ length bs → as' ≢ bs
    → (earlier as' bs ≡ true) ⊎ (earlier bs as' ≡ true)

-- of two subsets not both are earlier
abbrev pub NotBothAreEarlier : Type 0
NotBothAreEarlier = (as' bs : List Bool) → earlier as' bs ≡ true → ¬ (earlier bs as' ≡ true)

-- what is earlier than an earlier subset is earlier than the last of them
abbrev pub EarlierThanEarlier : Type 0
EarlierThanEarlier =
    (as' bs cs : List Bool) → earlier as' bs ≡ true → earlier bs cs ≡ true → earlier as' cs ≡ true
