use Rattle.std.proofs.Common.{ap, ◌∙◌, sym, subst}
use Rattle.std.specs.Prelude.{T, map}
use Rattle.std.specs.FinMap.{entries, entries-from_sorted}
use Rattle.preference_desk.specs.Rows.{ArePairs, pair_entry}
use Rattle.preference_desk.specs.StudentPreferences.{pair_cmp}
use Rattle.preference_desk.proofs.PreferenceLemmas.{row_is}
use Rattle.preference_desk.proofs.preferences.Preferences.pairs.Goals as goal

pub returns-clause-entries : goal.returns-clause-entries
returns-clause-entries c =
    let row = c.index.result.now in
    ap (map pair_entry) c.deref.ensures.value
    ∙ sym (entries-from_sorted pair_cmp (map pair_entry row.pairs.items.items) (subst T (sym row.pairs.kept.sorted) tt))
    ∙ ap (λ wanted. entries wanted.pairs) (row_is c.args.self.now.rows.items c.from.result c.args.student.0 row c.index.ensures c.from.ensures c.requires)

pub returns-clause-kept : goal.returns-clause-kept
returns-clause-kept c = subst ArePairs (sym c.deref.ensures.value) c.index.result.now.pairs.kept
