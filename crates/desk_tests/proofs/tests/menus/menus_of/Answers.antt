use Rattle.std.proofs.Common.{length, ap, subst, ◌∙◌}
use Rattle.std.specs.Prelude.{All}
use Rattle.std.proofs.lemmas.List.{length-map}
use Rattle.course_catalog.specs.Sections.{Section}
use Rattle.preference_desk.specs.DeskNames.{DeskNames}
use Rattle.preference_desk.specs.PreferencesView.{preferences_of}
use Rattle.preference_desk.specs.StudentPreferences.{SectionsBelow}
use Rattle.student_roll.specs.Students.{Student}
use Rattle.desk_tests.proofs.tests.menus.menus_of.Goals as goal

pub menus-requires-clause-students : goal.menus-requires-clause-students
menus-requires-clause-students c =
    c.closed.ensures.rows ∙ ap (λ (names : DeskNames). length names.students) c.requires
    ∙ length-map c.args.roll.now.students (λ (student : Student). student.name)

pub menus-requires-clause-sections : goal.menus-requires-clause-sections
menus-requires-clause-sections c =
    subst (λ n. All (SectionsBelow n) (preferences_of c.closed.result.now))
    (ap (λ (names : DeskNames). length names.sections) c.requires ∙ length-map c.args.catalog.now.sections (λ (section : Section). section.name))
    c.closed.ensures.sections
