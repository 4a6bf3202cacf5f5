-- What the desk's rows are seen as.
use Rattle.std.specs.Prelude.{ℕ, List, map, slice_index_or}
use Rattle.preference_desk.specs.declared.preferences.Row.{Row}
use Rattle.preference_desk.specs.declared.preferences.Preferences.{Preferences}
use Rattle.preference_desk.specs.PairsView.{pairs_in}
use Rattle.preference_desk.specs.RatingsView.{ratings_in}
use Rattle.preference_desk.specs.StudentPreferences.{StudentPreferences, no_preferences}

-- what the student of a row wants
abbrev pub wanted_in : Row → StudentPreferences
wanted_in row = record { ratings = ratings_in row.ratings; pairs = pairs_in row.pairs }

-- what each student wants, in file order
abbrev pub preferences_of : Preferences → List StudentPreferences
preferences_of preferences = map wanted_in preferences.rows.items

-- what one student wants
abbrev pub wanted_by : Preferences → ℕ → StudentPreferences
wanted_by preferences student = slice_index_or (preferences_of preferences) student no_preferences
