use Rattle.std.proofs.Common.{arith}
use Rattle.preference_desk.specs.PreferencesView.{preferences_of}
use Rattle.preference_desk.specs.StudentPreferences.{no_preferences}
use Rattle.student_roll.specs.Students.{no_student}
use Rattle.market_menus.proofs.StudentFacts.{menus_more}
use Rattle.market_menus.proofs.menu.menus.Goals as goal

pub students-preserved : goal.students-preserved
students-preserved c =
    rw c.in_ok-push.ensures.items
    (menus_more c.args.catalog.now.sections c.args.roll.now.students (preferences_of c.args.preferences.now) c.students.menus.items c.students.student no_student no_preferences c.in_ok-menu_of.field-0
    (omega arith) (omega arith) c.students.invariant c.in_ok-menu_of.ensures)
