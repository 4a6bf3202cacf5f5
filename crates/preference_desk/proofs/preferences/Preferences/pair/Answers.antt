use Rattle.std.proofs.Common.{cond, ap, ◌∙◌}
use Rattle.std.proofs.lemmas.Int.{to_z-of_z}
use mir.Syntax.{w16}
use Rattle.preference_desk.specs.PairsView.{pairs_in}
use Rattle.preference_desk.specs.StudentPreferences.{with_pair}
use Rattle.preference_desk.proofs.PreferenceLemmas.{row_is, row_changes, paired_row}
use Rattle.preference_desk.proofs.preferences.Preferences.pair.Goals as goal

pub returns-clause-set : goal.returns-clause-set
returns-clause-set c =
    let rows = c.args.self.now.rows.items in
    let row = row_is rows c.from.result c.args.student.0 c.index_mut-row.result.now c.index_mut-row.ensures.value c.from.ensures c.requires.student in
    row_changes rows c.from.result c.args.student.0 (record { ratings = c.index_mut-row.result.now.ratings; pairs = c.set.new.self }) c.set.result _
    c.from.ensures c.requires.student
    (paired_row c.index_mut-row.result.now c.set.new.self _ (c.args.sections.lower.0, c.args.sections.higher.0) c.args.n c.set.result row
    (c.set.ensures.set ∙ ap (λ n. cond c.set.result (with_pair (pairs_in c.index_mut-row.result.now.pairs) (c.args.sections.lower.0, c.args.sections.higher.0) n) (pairs_in c.index_mut-row.result.now.pairs)) (to_z-of_z w16 c.args.n c.ranges.n)))
