use Rattle.std.proofs.Common.{◌≡◌, map, arith, ap, ◌∙◌}
use Rattle.std.specs.Prelude.{replicate}
use Rattle.preference_desk.specs.StudentPreferences.{no_preferences}
use Rattle.preference_desk.specs.PreferencesView.{wanted_in}
use Rattle.preference_desk.proofs.PreferenceLemmas.{one_row_more}
use Rattle.preference_desk.proofs.preferences.Preferences.new.Goals as goal

pub loop-student-preserved : goal.loop-student-preserved
loop-student-preserved c =
    ap (map wanted_in) c.in_ok-push.ensures.items
    ∙ one_row_more c.loop-student.rows.items c.loop-student._student c.in_ok-new.field-0 c.loop-student.invariant c.in_ok-new.ensures

pub returns : goal.returns
returns c = c.loop-student.invariant ∙ ap (λ n. replicate n no_preferences) (let all : c.loop-student._student ≡ c.args.students = omega arith in all)
