use Rattle.std.proofs.Common.{arith}
use Rattle.market_units.specs.Name.{name_bytes}
use Rattle.preference_desk.specs.PreferencesView.{preferences_of}
use Rattle.preference_desk.specs.StudentPreferences.{no_preferences}
use Rattle.student_roll.specs.Students.{no_student}
use Rattle.preference_text.proofs.Students.{student_more}
use Rattle.preference_text.proofs.preferences.put_students.Goals as goal

pub students-preserved : goal.students-preserved
students-preserved c =
    student_more c.args.catalog.now.sections c.args.roll.now.students (preferences_of c.args.preferences.now) c.students.number no_student no_preferences
    (name_bytes c.name.result)
    c.args.text.now.items c.students.text.items c.put_student.new.text.items c.requires.students (omega arith) c.name.ensures c.students.invariant
    c.in_ok-put_student.ensures
