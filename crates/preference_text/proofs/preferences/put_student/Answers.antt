use Rattle.std.proofs.Common.{length, arith}
use Rattle.preference_desk.specs.PreferencesView.{wanted_by}
use Rattle.preference_desk.specs.StudentPreferences.{no_preferences}
use Rattle.preference_desk.proofs.BelowLemmas.{adjusted_below, rated_below}
use Rattle.preference_text.proofs.preferences.put_student.Goals as goal

pub put_ratings-requires : goal.put_ratings-requires
put_ratings-requires c =
    let wanted = wanted_by c.args.preferences.now c.args.student.0 in
    rated_below (length c.args.catalog.now.sections) wanted c.ratings.result.now (c.requires.sections c.args.student.0 no_preferences (omega arith))
    c.ratings.ensures.entries

pub put_adjustments-requires : goal.put_adjustments-requires
put_adjustments-requires c =
    let wanted = wanted_by c.args.preferences.now c.args.student.0 in
    adjusted_below (length c.args.catalog.now.sections) wanted c.pairs.result.now (c.requires.sections c.args.student.0 no_preferences (omega arith))
    c.pairs.ensures.entries
