use Rattle.preference_desk.proofs.PreferenceLemmas.{row_is, row_changes, rated_row}
use Rattle.preference_desk.proofs.preferences.Preferences.rate.Goals as goal

pub returns-clause-set : goal.returns-clause-set
returns-clause-set c =
    let rows = c.args.self.now.rows.items in
    let row = row_is rows c.from.result c.args.student.0 c.index_mut-row.result.now c.index_mut-row.ensures.value c.from.ensures c.requires.student in
    row_changes rows c.from.result c.args.student.0 (record { ratings = c.set.new.self; pairs = c.index_mut-row.result.now.pairs }) c.set.result _
    c.from.ensures c.requires.student
    (rated_row c.index_mut-row.result.now c.set.new.self _ c.args.section.0 c.args.rating.n c.set.result row c.set.ensures.set)
