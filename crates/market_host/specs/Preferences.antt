-- What `prefer` prints.
use Rattle.std.specs.Prelude.{ℕ, ◌≡◌, List, ◌∷◌}
use Rattle.course_catalog.specs.Catalog.{CatalogData}
use Rattle.student_roll.specs.Students.{RollData}
use Rattle.preference_desk.specs.declared.entry.Entry.{Entry}
use Rattle.preference_desk.specs.Journals.{IsLegalJournal, MergesStreams}
use Rattle.preference_desk.specs.MarketNames.{market_names}
use Rattle.preference_text.specs.Texts.{preferences_text}
use Rattle.utility_language.specs.declared.commands.Command.{Command}
use Rattle.market_host.specs.Markets.{IsHeld}

-- the text tells a journal that a desk for this catalogue and this roll keeps of these streams, and
-- the preferences that it ends with
abbrev pub TellsPreferences : CatalogData → RollData → List (List Command) → List ℕ → Type 0
TellsPreferences offered enrolled streams text =
    (journal : List Entry)
    × IsLegalJournal (market_names offered.sections enrolled.students) journal
    × MergesStreams streams journal
    × (text ≡ preferences_text offered.sections enrolled.students journal)

-- the text tells the journal of a market that was held on these inputs, and the preferences that it
-- ends with
abbrev pub IsPreferencesOf : List ℕ → List ℕ → List (List ℕ) → List ℕ → Type 0
IsPreferencesOf catalog roll sessions text =
    (offered : CatalogData) × (enrolled : RollData) × (journal : List Entry)
    × IsHeld catalog roll sessions offered enrolled journal
    × (text ≡ preferences_text offered.sections enrolled.students journal)

-- what is printed for the texts of a catalogue, a roll and sessions
abbrev pub PrintsPreferences : List (List ℕ) → List ℕ → Type 0
PrintsPreferences (catalog ∷ roll ∷ sessions) text = IsPreferencesOf catalog roll sessions text
PrintsPreferences texts text = ⊥
