-- What `quote` prints.
use Rattle.std.specs.Prelude.{ℕ, ℤ, ◌≡◌, ◌++◌, List, [], ◌∷◌, map, codes, nat_lt, Ok}
use Rattle.std.specs.List.{join_with_byte}
use Rattle.std.specs.Fmt.{signed_decimal}
use Rattle.market_units.specs.declared.limits.TheConstants.{MAX_SECTIONS}
use Rattle.bundle_rules.specs.Demand.{IsBest}
use Rattle.bundle_rules.specs.Menus.{MenuData, wishes_of}
use Rattle.bundle_rules.specs.Wishes.{utility}
use Rattle.course_catalog.specs.Catalog.{CatalogData}
use Rattle.course_catalog.specs.Reading.{catalog_of}
use Rattle.course_catalog.specs.Sections.{Section, section_at}
use Rattle.market_menus.specs.MenusOf.{IsMenuOf}
use Rattle.preference_desk.specs.DeskNames.{DeskNames}
use Rattle.preference_desk.specs.DeskStep.{DeskState, preferences_at, state_after}
use Rattle.preference_desk.specs.Journals.{opening}
use Rattle.preference_desk.specs.MarketNames.{market_names}
use Rattle.preference_desk.specs.StudentPreferences.{StudentPreferences}
use Rattle.student_roll.specs.Students.{Student, single_student}
use Rattle.utility_language.specs.declared.commands.Command.{Command}
use Rattle.utility_language.specs.Commands.{AreCommands}
use Rattle.market_host.specs.Sessions.{session_text}

-- the state of a desk after these commands
abbrev pub state_after_commands : DeskNames → DeskState → List Command → DeskState
state_after_commands names state [] = state
state_after_commands names state (command ∷ more) =
    state_after_commands names (state_after names state command) more

-- the state of a new desk after these commands
abbrev pub state_of_new_desk : List Section → List Student → List Command → DeskState
state_of_new_desk sections students commands =
    state_after_commands (market_names sections students) (opening (market_names sections students))
    commands

-- what the only student of a roll wants after all commands of the only session
abbrev pub wanted_after : List Section → Student → List Command → StudentPreferences
wanted_after sections student commands =
    preferences_at (state_of_new_desk sections (student ∷ []) commands) 0

-- the names of sections, with commas between them
abbrev pub names_with_commas : List Section → List ℕ → List ℕ
names_with_commas sections bundle =
    join_with_byte 44 (map (λ s. (section_at sections s).name) bundle)

-- the two lines that tell a student's bundle and its utility
abbrev pub quoted_text : List Section → List ℕ → List ℕ → ℤ → List ℕ
quoted_text sections name bundle worth =
    codes "bundle "
    ++ (name
    ++ (codes " ["
    ++ (names_with_commas sections bundle
    ++ (codes "]\nutility " ++ (signed_decimal worth ++ codes "\n")))))

-- a menu of the student, and the best bundle of that menu where nothing has a price and every
-- section is allowed, are told
abbrev pub IsQuote : List Section → Student → List Command → List ℕ → Type 0
IsQuote sections student commands text =
    (menu : MenuData) × IsMenuOf sections student (wanted_after sections student commands) menu
    × (bundle : List ℕ) × IsBest (wishes_of menu) (λ _. 0) 0 (λ s. nat_lt s MAX_SECTIONS) bundle
    × (text ≡ quoted_text sections student.name bundle (utility (wishes_of menu) bundle))

-- the text is what is told of the catalogue and the commands that these inputs stand for
abbrev pub IsQuoteOf : List ℕ → ℕ → ℕ → List ℕ → List ℕ → List ℕ → Type 0
IsQuoteOf name credits courses catalog session text =
    (offered : CatalogData) × (catalog_of catalog ≡ Ok offered)
    × (commands : List Command) × AreCommands (session_text session) commands
    × IsQuote offered.sections (single_student name credits courses) commands text

-- what is printed for the texts of a catalogue and a session
abbrev pub PrintsQuote : List ℕ → ℕ → ℕ → List (List ℕ) → List ℕ → Type 0
PrintsQuote name credits courses (catalog ∷ session ∷ []) text =
    IsQuoteOf name credits courses catalog session text
PrintsQuote name credits courses texts text = ⊥
