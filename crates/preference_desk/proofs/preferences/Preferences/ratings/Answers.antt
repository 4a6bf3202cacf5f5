use Rattle.std.proofs.Common.{nat_cmp, ap, ◌∙◌, sym, subst}
use Rattle.std.specs.Prelude.{T, map}
use Rattle.std.specs.FinMap.{entries, entries-from_sorted}
use Rattle.preference_desk.specs.Rows.{AreRatings, rating_entry}
use Rattle.preference_desk.proofs.PreferenceLemmas.{row_is}
use Rattle.preference_desk.proofs.preferences.Preferences.ratings.Goals as goal

pub returns-clause-entries : goal.returns-clause-entries
returns-clause-entries c =
    let row = c.index.result.now in
    ap (map rating_entry) c.deref.ensures.value
    ∙ sym (entries-from_sorted nat_cmp (map rating_entry row.ratings.items.items) (subst T (sym row.ratings.kept.sorted) tt))
    ∙ ap (λ wanted. entries wanted.ratings) (row_is c.args.self.now.rows.items c.from.result c.args.student.0 row c.index.ensures c.from.ensures c.requires)

pub returns-clause-kept : goal.returns-clause-kept
returns-clause-kept c = subst AreRatings (sym c.deref.ensures.value) c.index.result.now.ratings.kept
