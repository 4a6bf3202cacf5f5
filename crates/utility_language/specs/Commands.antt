-- Which command the words of a line spell, and how a command is written.
use Rattle.std.specs.Prelude.{ℕ, ℤ, ◌≡◌, ◌≢◌, ◌<◌, ◌^◌, ◌⊎◌, Bool, false, not, ◌==◌, List, [], ◌∷◌, map, slice_index, unsigned_abs, codes, ⊤}
use Rattle.std.specs.List.{filter, AllZip, join_with_byte}
use Rattle.std.specs.Fmt.{signed_decimal}
use Rattle.market_units.specs.Name.{name_bytes}
use Rattle.utility_language.specs.declared.commands.Command.{Command}
use Rattle.utility_language.specs.declared.commands.Command.TheVariants.{Rate, Pair, Clear, Close, Unreadable}
use Rattle.utility_language.specs.Lines.{lines_of}
use Rattle.utility_language.specs.Words.{words_of}

-- the words by which a command is written
abbrev pub words_by : Command → List (List ℕ)
words_by (Rate student section n) = codes "rate" ∷ name_bytes student ∷ name_bytes section ∷ signed_decimal n ∷ []
words_by (Pair student first second n) = codes "pair" ∷ name_bytes student ∷ name_bytes first ∷ name_bytes second ∷ signed_decimal n ∷ []
words_by (Clear student) = codes "clear" ∷ name_bytes student ∷ []
words_by Close = codes "close" ∷ []
words_by Unreadable = codes "unreadable" ∷ []

-- the word spells this number of at most six digits
abbrev pub IsShort : List ℕ → ℤ → Type 0
IsShort word n = (unsigned_abs n < 10 ^ 6) × (word ≡ signed_decimal n)

-- the number of a command, where it has one, has at most six digits
abbrev pub HasShortNumber : Command → Type 0
HasShortNumber (Rate student section n) = unsigned_abs n < 10 ^ 6
HasShortNumber (Pair student first second n) = unsigned_abs n < 10 ^ 6
HasShortNumber (Clear student) = ⊤
HasShortNumber Close = ⊤
HasShortNumber Unreadable = ⊤

-- the words are those of a command that can be read
pub record Spells (words : List (List ℕ)) (command : Command) : Type 0 where
  pub readable : command ≢ Unreadable
  pub short : HasShortNumber command
  pub written : words ≡ words_by command

-- the command of a line with these words: the one that they spell, and where they spell none,
-- `Unreadable`
abbrev pub IsCommandOf : List (List ℕ) → Command → Type 0
IsCommandOf words command =
    Spells words command ⊎ ((command ≡ Unreadable) × ((other : Command) → ¬ Spells words other))

-- whether a line with these words is a command: it has words, and the first does not begin with `#`
abbrev pub is_command : List (List ℕ) → Bool
is_command [] = false
is_command (first ∷ rest) = not (slice_index first 0 == 35)

-- the words of the lines of a text that are commands, line by line
abbrev pub command_lines : List ℕ → List (List (List ℕ))
command_lines text = filter is_command (map words_of (lines_of text))

-- the commands of a text: those of its lines, in their order
abbrev pub AreCommands : List ℕ → List Command → Type 0
AreCommands text commands = AllZip IsCommandOf (command_lines text) commands

-- the text of a command: its words, with one space between each two
abbrev pub printed : Command → List ℕ
printed command = join_with_byte 32 (words_by command)
