-- The journal of an order of sessions.
use Rattle.std.specs.Prelude.{ℕ, ◌≡◌, List, slice_index_or}
use Rattle.bundle_rules.specs.Wishes.{Wishes}
use Rattle.market_menus.specs.Students.{student_at}
use Rattle.market_menus.specs.Wanted.{wishes_from}
use Rattle.preference_desk.specs.DeskNames.{DeskNames}
use Rattle.preference_desk.specs.Journals.{IsLegalJournal, MergesStreams, closed_preferences, sessions_of}
use Rattle.preference_desk.specs.StudentPreferences.{StudentPreferences, no_preferences}
use Rattle.preference_desk.specs.declared.entry.Entry.{Entry}
use Rattle.utility_language.specs.declared.commands.Command.{Command}
use Rattle.published_parts.specs.Markets.{Market, names_in}

-- The journal of an order: its entries are of these sessions, each is the next command of its
-- session with the desk's reply to it, and at the end each session has said all its commands.
pub record IsJournalOf (names : DeskNames) (streams : List (List Command)) (order : List ℕ)
    (journal : List Entry) : Type 0 where
  pub sessions : sessions_of journal ≡ order
  pub legal : IsLegalJournal names journal
  pub merges : MergesStreams streams journal

-- what each student wants after the whole journal, in file order
abbrev pub wanted_in : Market → List Entry → List StudentPreferences
wanted_in market journal = closed_preferences (names_in market) journal

-- what a student wants and may take: the ratings and adjustments after the whole journal, the
-- catalogue's credits and clashes, the roll's caps
abbrev pub wishes_in : Market → List Entry → ℕ → Wishes
wishes_in market journal student =
    wishes_from market.catalog.sections (student_at market.roll.students student)
    (slice_index_or (wanted_in market journal) student no_preferences)
