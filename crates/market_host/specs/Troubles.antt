-- What stops a call at one of its inputs.
use Rattle.std.specs.Prelude.{ℕ, ◌≡◌, ◌+◌, ◌<◌, ◌≤◌, ◌⊎◌, IsTrue, List, [], ◌∷◌, ◌++◌, length, ⊤}
use Rattle.market_units.specs.declared.limits.TheConstants.{MAX_COMMANDS}
use Rattle.market_edge.specs.Faults.{Rose}
use Rattle.market_edge.specs.Holdings.{IsReadOut, IsTextOf, TakesAtMost, TakesExactly}
use Rattle.market_words.specs.declared.words.Form.{Form}
use Rattle.market_host.specs.declared.cause.Cause.{Cause}
use Rattle.market_host.specs.declared.trouble.Trouble.{Trouble}
use Rattle.market_host.specs.declared.trouble.Trouble.TheVariants.{ShelfFault, Refused, TooLong, OutOfMemory}
use Rattle.market_host.specs.Inputs.{AreRead, HasFault, commands_among}
use Rattle.market_words.specs.Kinds.{kind_of, limit_of}
use Rattle.market_host.specs.Sights.{Sight}

-- the shelf serves this name, as it does from the begin of its text on, and nothing of the begun
-- text is left, where it tells
abbrev pub IsAtEnd : Sight → List ℕ → Type 0
IsAtEnd seen name = IsTrue (seen.serves name) × IsReadOut seen.held seen.left

-- a count of faults of this name rose, and no more bytes than so many were taken of its text, where
-- it is begun
abbrev pub IsFailed : ℕ → Sight → List ℕ → Type 0
IsFailed limit seen name =
    Rose (seen.before name) (seen.after name)
    × (IsTrue seen.begun → TakesAtMost limit seen.held name seen.left)

-- the text of this name, behind these others, was read to its end; it is within its limit of bytes
-- and has this fault
abbrev pub IsFaulty : Form → Sight → ℕ → Cause → List (List ℕ) → List ℕ → Type 0
IsFaulty form seen row cause earlier name =
    IsAtEnd seen name
    × (text : List ℕ) × IsTextOf seen.held name text
    × (length text ≤ limit_of (kind_of form (length earlier)))
    × HasFault (kind_of form (length earlier)) earlier row cause text

-- the text of this name, behind these others, was read to its end; it is within its limit of bytes
-- and brings the commands of all streams above 200,000
abbrev pub HasSurplus : Form → Sight → List (List ℕ) → List ℕ → Type 0
HasSurplus form seen earlier name =
    IsAtEnd seen name
    × (text : List ℕ) × IsTextOf seen.held name text
    × (length text ≤ limit_of (kind_of form (length earlier)))
    × (MAX_COMMANDS < commands_among form (earlier ++ text ∷ []))

-- of the text of this name, behind these others, exactly one byte more than its limit was taken,
-- where the shelf tells
abbrev pub IsPastLimit : Form → Sight → List (List ℕ) → List ℕ → Type 0
IsPastLimit form seen earlier name =
    TakesExactly (limit_of (kind_of form (length earlier)) + 1) seen.held name seen.left

-- among the inputs there is one of this number, counted from 1; those before it were read, and
-- their texts and its name have P
abbrev pub AtInput : Form → Sight → List (List ℕ) → ℕ → (List (List ℕ) → List ℕ → Type 0) → Type 0
AtInput form seen inputs number P =
    (earlier : List (List ℕ)) × (name : List ℕ) × (later : List (List ℕ)) × (texts : List (List ℕ))
    × (inputs ≡ earlier ++ name ∷ later) × (number ≡ length earlier + 1)
    × AreRead form seen.held earlier texts × P texts name

-- what must hold where one of the inputs of a form, or the want of memory, stops the call
abbrev pub HasTrouble : Form → Sight → List (List ℕ) → Trouble → Type 0
HasTrouble form seen inputs (ShelfFault number) =
    AtInput form seen inputs number
    (λ texts. IsFailed (limit_of (kind_of form (length texts))) seen)
HasTrouble form seen inputs (Refused number row cause) =
    AtInput form seen inputs number (IsFaulty form seen row cause)
HasTrouble form seen inputs (TooLong number) =
    AtInput form seen inputs number
    (λ texts name. IsPastLimit form seen texts name ⊎ HasSurplus form seen texts name)
HasTrouble form seen inputs OutOfMemory = ⊤
