-- The laws of lines, words and commands.
use Rattle.std.specs.Prelude.{ℕ, ◌≡◌, ◌<◌, true, false, IsTrue, List, [], ◌∷◌, ◌++◌, ◌==◌, length, All}
use Rattle.std.specs.Str.Lines.{strip_carriage_return}
use Rattle.utility_language.specs.declared.commands.Command.{Command}
use Rattle.utility_language.specs.Lines.{lines_of}
use Rattle.utility_language.specs.Words.{is_blank, words_of}
use Rattle.utility_language.specs.Commands.{HasShortNumber, IsCommandOf, AreCommands, is_command, printed}

-- a text without a line feed
abbrev pub IsOneLine : List ℕ → Type 0
IsOneLine line = All (λ byte. (byte == 10) ≡ false) line

-- one byte or more, and no blank among them
pub record IsWord (word : List ℕ) : Type 0 where
  pub some : 0 < length word
  pub whole : All (λ byte. is_blank byte ≡ false) word

-- a line feed ends a line, and bytes behind the last line feed are a line too
pub record LinesOfATextLaw : Type 0 where
  pub none : lines_of [] ≡ []
  pub ended : (line rest : List ℕ) → IsOneLine line
      → lines_of (line ++ 10 ∷ rest) ≡ strip_carriage_return line ∷ lines_of rest
  pub last : (line : List ℕ) → IsOneLine line → 0 < length line
      → lines_of line ≡ strip_carriage_return line ∷ []

-- blanks stand before, between and behind words, and are no part of any
pub record WordsOfALineLaw : Type 0 where
  pub none : words_of [] ≡ []
  pub blank : (byte : ℕ) (rest : List ℕ) → IsTrue (is_blank byte)
      → words_of (byte ∷ rest) ≡ words_of rest
  pub ended : (word : List ℕ) (byte : ℕ) (rest : List ℕ) → IsWord word → IsTrue (is_blank byte)
      → words_of (word ++ byte ∷ rest) ≡ word ∷ words_of rest
  pub last : (word : List ℕ) → IsWord word → words_of word ≡ word ∷ []

-- words have one command
abbrev pub OneCommandALineLaw : Type 0
OneCommandALineLaw =
    (words : List (List ℕ)) (a b : Command) → IsCommandOf words a → IsCommandOf words b → a ≡ b

-- a text has one list of commands
abbrev pub OneListATextLaw : Type 0
OneListATextLaw =
    (text : List ℕ) (a b : List Command) → AreCommands text a → AreCommands text b → a ≡ b

-- a printed command is a line, and its command is the one that was printed
abbrev pub PrintedIsReadLaw : Type 0
PrintedIsReadLaw =
    (command : Command) → HasShortNumber command
    → (is_command (words_of (printed command)) ≡ true)
    × IsCommandOf (words_of (printed command)) command
