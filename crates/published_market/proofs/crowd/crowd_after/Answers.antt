use Rattle.std.proofs.Common.{◌≡◌, ◌∙◌, length, ap, subst}
use Rattle.std.specs.Prelude.{All, IfOk}
use Rattle.std.proofs.lemmas.List.{length-map}
use Rattle.course_catalog.specs.Sections.{Section}
use Rattle.demand_api.specs.Views.{data_of}
use Rattle.market_crowd.specs.Crowds.{IsCrowdOf}
use Rattle.preference_desk.specs.DeskNames.{DeskNames}
use Rattle.preference_desk.specs.DeskView.{entries_of}
use Rattle.preference_desk.specs.Journals.{closed_preferences}
use Rattle.preference_desk.specs.PreferencesView.{preferences_of}
use Rattle.preference_desk.specs.StudentPreferences.{SectionsBelow}
use Rattle.published_parts.specs.Markets.{names_in}
use Rattle.published_parts.specs.Views.{market_in}
use Rattle.student_roll.specs.Students.{Student}
use Rattle.published_market.proofs.crowd.crowd_after.Goals as goal

pub make_crowd-requires-clause-students : goal.make_crowd-requires-clause-students
make_crowd-requires-clause-students c =
    c.closed.ensures.rows ∙ ap (λ (names : DeskNames). length names.students) c.requires
    ∙ length-map c.args.market.now.roll.now.students (λ (student : Student). student.name)

pub make_crowd-requires-clause-sections : goal.make_crowd-requires-clause-sections
make_crowd-requires-clause-sections c =
    subst (λ n. All (SectionsBelow n) (preferences_of c.closed.result.now))
    (ap (λ (names : DeskNames). length names.sections) c.requires ∙ length-map c.args.market.now.catalog.now.sections (λ (section : Section). section.name))
    c.closed.ensures.sections

pub returns : goal.returns
returns c =
    let market = market_in c.args.market.now in
    let same : preferences_of c.closed.result.now ≡ closed_preferences (names_in market) (entries_of c.args.desk.now) =
    c.closed.ensures.after ∙ ap (λ (names : DeskNames). closed_preferences names (entries_of c.args.desk.now)) c.requires in
    subst
    (λ wanted. IfOk c.make_crowd.result
    (λ crowd. IsCrowdOf c.args.market.now.catalog.now.sections c.args.market.now.roll.now.students wanted c.args.market.now.settings.now.seed c.args.market.now.settings.now.spread
    (data_of crowd)))
    same c.make_crowd.ensures
