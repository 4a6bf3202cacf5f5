use Rattle.std.proofs.Common.{◌≡◌, map}
use Rattle.std.specs.Prelude.{replicate}
use Rattle.preference_desk.specs.PreferencesView.{wanted_in}
use Rattle.preference_desk.specs.StudentPreferences.{no_preferences}
use Rattle.preference_desk.proofs.preferences.Preferences.new.Given as goal

-- so many students want nothing
abbrev pub invariant-loop-student : goal.invariant-loop-student
invariant-loop-student l = map wanted_in l.rows.items ≡ replicate l._student no_preferences
