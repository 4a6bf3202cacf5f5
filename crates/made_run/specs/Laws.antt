-- The laws of made markets that are run: what is told of them is a function of their numbers.
use Rattle.std.specs.Prelude.{ℕ, ◌≡◌, ◌≤◌, ◌<◌, ◌^◌, List, ◌+◌, Ok, length}
use Rattle.market_units.specs.declared.limits.TheConstants.{MAX_ACCEPT, MAX_COMMANDS, MAX_SECTIONS, MAX_STUDENTS}
use Rattle.made_run.specs.Made.{IsMadeSummary, IsMadeUnpriced}
use Rattle.course_catalog.specs.Reading.{catalog_of}
use Rattle.made_run.specs.Settings.{made_settings}
use Rattle.made_run.specs.Tables.{made_catalog, made_roll}
use Rattle.market_maker.specs.Catalogs.{catalog_text}
use Rattle.market_maker.specs.Rolls.{roll_text}
use Rattle.market_maker.specs.Sessions.{first_text, second_text}
use Rattle.market_maker.specs.Settings.{settings_text}
use Rattle.market_settings.specs.Settings.{settings_of}
use Rattle.student_roll.specs.Rolls.{roll_of}
use Rattle.utility_language.specs.Commands.{command_lines}
use Rattle.utility_language.specs.declared.commands.Command.{Command}
use Rattle.preference_desk.specs.declared.entry.Entry.{Entry}
use Rattle.preference_desk.specs.DeskNames.{DeskNames}
use Rattle.preference_desk.specs.Journals.{MergesStreams, closed_preferences}
use Rattle.made_run.specs.Apart.{AreApart}

-- the numbers of made markets
pub record AreNumbers (seed students sections accept : ℕ) : Type 0 where
  pub seed_fits : seed < 2 ^ 64
  pub few_students : students ≤ MAX_STUDENTS
  pub some_sections : 1 ≤ sections
  pub few_sections : sections ≤ MAX_SECTIONS
  pub accept_fits : accept ≤ MAX_ACCEPT

-- a made market has one summary
abbrev pub OneMadeSummary : Type 0
OneMadeSummary =
    (seed students sections accept : ℕ) (one other : List ℕ)
    → AreNumbers seed students sections accept → IsMadeSummary seed students sections accept one
    → IsMadeSummary seed students sections accept other → one ≡ other

-- where it finds no prices, it has one least error
abbrev pub OneMadeError : Type 0
OneMadeError =
    (seed students sections accept one other : ℕ) → AreNumbers seed students sections accept
    → IsMadeUnpriced seed students sections accept one
    → IsMadeUnpriced seed students sections accept other → one ≡ other

-- it never has both
abbrev pub SummaryIsPriced : Type 0
SummaryIsPriced =
    (seed students sections accept : ℕ) (text : List ℕ) (least : ℕ)
    → AreNumbers seed students sections accept → IsMadeSummary seed students sections accept text
    → ¬ IsMadeUnpriced seed students sections accept least

-- each text is of its grammar, and this is what it says; the sessions have at most so many commands
-- together
pub record AreOfTheirGrammars (seed students sections accept : ℕ) : Type 0 where
  pub catalog : catalog_of (catalog_text students sections) ≡ Ok (made_catalog students sections)
  pub roll : roll_of (roll_text students) ≡ Ok (made_roll students)
  pub settings : settings_of (settings_text seed accept) ≡ Ok (made_settings seed accept)
  pub commands : length (command_lines (first_text seed students sections))
      + length (command_lines (second_text seed students sections))
      ≤ MAX_COMMANDS

-- so it is with every made market
abbrev pub MadeTextsAreOfTheirGrammars : Type 0
MadeTextsAreOfTheirGrammars =
    (seed students sections accept : ℕ) → seed < 2 ^ 64 → students ≤ MAX_STUDENTS → 1 ≤ sections
    → sections ≤ MAX_SECTIONS → accept ≤ MAX_ACCEPT
    → AreOfTheirGrammars seed students sections accept

-- two journals that merge such streams close with the same preferences
abbrev pub OrdersCloseAlike : Type 0
OrdersCloseAlike =
    (names : DeskNames) (streams : List (List Command)) (one other : List Entry)
    → AreApart names streams → MergesStreams streams one → MergesStreams streams other
    → closed_preferences names one ≡ closed_preferences names other
