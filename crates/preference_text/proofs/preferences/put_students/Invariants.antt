use Rattle.std.proofs.Common.{◌≡◌, ◌++◌, take}
use Rattle.preference_desk.specs.PreferencesView.{preferences_of}
use Rattle.preference_text.specs.Texts.{wanted_text}
use Rattle.preference_text.proofs.preferences.put_students.Given as goal

abbrev pub invariant-students : goal.invariant-students
invariant-students l =
    l.text.items ≡ l.initial.text.items ++ wanted_text l.catalog.sections (take l.number l.roll.students) (take l.number (preferences_of l.preferences))
