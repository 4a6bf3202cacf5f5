use Rattle.std.proofs.Common.{length, ap, subst, ◌∙◌}
use Rattle.std.specs.Prelude.{All}
use Rattle.std.proofs.lemmas.List.{length-map}
use Rattle.course_catalog.specs.Sections.{Section}
use Rattle.preference_desk.specs.DeskNames.{DeskNames}
use Rattle.preference_desk.specs.PreferencesView.{preferences_of}
use Rattle.preference_desk.specs.StudentPreferences.{SectionsBelow}
use Rattle.preference_text.proofs.text.preferences_text.Goals as goal

pub put_students-requires-clause-sections : goal.put_students-requires-clause-sections
put_students-requires-clause-sections c =
    subst (λ n. All (SectionsBelow n) (preferences_of c.closed.result.now))
    (ap (λ (names : DeskNames). length names.sections) c.requires.names ∙ length-map c.args.catalog.now.sections (λ (section : Section). section.name))
    c.closed.ensures.sections
