-- The sections that are rated or adjusted are the desk's.
use Rattle.std.proofs.Common.{ℕ, ◌==◌, ◌≡◌, ◌<◌, true, false, not, cond, ◌&&◌, List, length, refl, arith}
use Rattle.std.specs.Prelude.{ℤ, All, unsigned_abs}
use Rattle.std.specs.Cmp.{nat_cmp_total}
use Rattle.std.specs.Ordering.{nat_cmp, eq_by_cmp}
use Rattle.std.specs.FinMap.{FinMap, entries, entries-insert, insert, remove, nat_cmp-IsAntisymmetric}
use Rattle.std.proofs.lemmas.Bool.{and_parts, not-false}
use Rattle.std.proofs.lemmas.List.Elements.{All-nil, All-set, All-filter}
use Rattle.market_units.specs.declared.names.Name.{Name}
use Rattle.utility_language.specs.declared.commands.Command.{Command}
use Rattle.utility_language.specs.declared.commands.Command.TheVariants.{Rate, Pair, Clear, Close, Unreadable}
use Rattle.preference_desk.specs.declared.entry.Entry.{Entry}
use Rattle.preference_desk.specs.DeskNames.{DeskNames, has_name, ordinal_of}
use Rattle.preference_desk.specs.DeskStep.{DeskState, is_done, changed, reply_to}
use Rattle.preference_desk.specs.Journals.{opening, state_after_all}
use Rattle.preference_desk.specs.StudentPreferences.{SectionsBelow, no_preferences, pair_cmp, pair_of, with_rating}
use Rattle.preference_desk.proofs.Keeping.{at_or_default, closed_keep, done_skips, pair_keeps}
use Rattle.preference_desk.proofs.NameLemmas.{found_inside}
use Rattle.preference_desk.proofs.RowLemmas.{entries-remove, entries-nothing, All-put}

nothing_below : (n : ℕ) → SectionsBelow n no_preferences
nothing_below n = record {
  rated = rw (entries-nothing {K = ℕ} {X = ℕ} nat_cmp) (All-nil (λ (rated : ℕ × ℕ). rated.0 < n));
  adjusted = rw (entries-nothing {K = ℕ × ℕ} {X = ℤ} pair_cmp) (All-nil (λ (adjusted : (ℕ × ℕ) × ℤ). (adjusted.0.0 < n) × (adjusted.0.1 < n)));
}

rating_below : (n : ℕ) (ratings : FinMap {K = ℕ} nat_cmp ℕ) (section rating : ℕ) → All (λ (rated : ℕ × ℕ). rated.0 < n) (entries ratings) → section < n
    → All (λ (rated : ℕ × ℕ). rated.0 < n) (entries (with_rating ratings section rating))
rating_below n ratings section rating each here =
    elim (rating == 0) as (λ b. All (λ (rated : ℕ × ℕ). rated.0 < n) (entries (cond b (remove ratings section) (insert ratings section rating)))) [
      | true ↦
          rw (entries-remove nat_cmp nat_cmp_total nat_cmp-IsAntisymmetric ratings section)
          (All-filter (λ e. not (eq_by_cmp nat_cmp section e.0)) (λ (rated : ℕ × ℕ). rated.0 < n) (entries ratings) each)
      | false ↦
          rw (entries-insert nat_cmp_total ratings section rating) (All-put nat_cmp nat_cmp_total (λ (s : ℕ). s < n) section rating (entries ratings) each here)
    ]

inside : (names : List (List ℕ)) (name : Name) → has_name names name ≡ true → ordinal_of names name < length names
inside names name has = found_inside _ names has

-- a command that is carried out names sections of the catalogue
changed_below : (names : DeskNames) (state : DeskState) (command : Command) → All (SectionsBelow (length names.sections)) state.preferences
    → is_done (reply_to names state command) ≡ true
    → All (SectionsBelow (length names.sections)) (changed names state command).preferences
changed_below names state (Rate student section n) each done =
    let open' = done_skips state.closed _ _ refl done in
    let known = done_skips (not (has_name names.students student)) _ _ refl open'.1 in
    let listed = done_skips (not (has_name names.sections section)) _ _ refl known.1 in
    let at =
    at_or_default (SectionsBelow (length names.sections)) state.preferences (ordinal_of names.students student) no_preferences each
    (nothing_below (length names.sections)) in
    All-set (SectionsBelow (length names.sections)) state.preferences _ _ (record {
      rated =
          rating_below (length names.sections) _ (ordinal_of names.sections section) (unsigned_abs n) at.rated
          (inside names.sections section (not-false _ listed.0));
      adjusted = at.adjusted;
    }) each
changed_below names state (Pair student first second n) each done =
    let open' = done_skips state.closed _ _ refl done in
    let known = done_skips (not (has_name names.students student)) _ _ refl open'.1 in
    let listed = done_skips (not (has_name names.sections first && has_name names.sections second)) _ _ refl known.1 in
    let have = and_parts _ _ (not-false _ listed.0) in
    let one : ordinal_of names.sections first < length names.sections = inside names.sections first have.0 in
    let other : ordinal_of names.sections second < length names.sections = inside names.sections second have.1 in
    let at =
    at_or_default (SectionsBelow (length names.sections)) state.preferences (ordinal_of names.students student) no_preferences each
    (nothing_below (length names.sections)) in
    All-set (SectionsBelow (length names.sections)) state.preferences _ _ (record {
      rated = at.rated;
      adjusted =
          pair_keeps (λ (pair : ℕ × ℕ). (pair.0 < length names.sections) × (pair.1 < length names.sections)) _
          (pair_of (ordinal_of names.sections first) (ordinal_of names.sections second)) n at.adjusted (omega arith, omega arith);
    }) each
changed_below names state (Clear student) each done =
    All-set (SectionsBelow (length names.sections)) state.preferences _ no_preferences (nothing_below (length names.sections)) each
changed_below names state Close each done = each
changed_below names state Unreadable each done = each

-- the closed preferences are of the desk's sections
pub closed_below : (names : DeskNames) (entries : List Entry)
    → All (SectionsBelow (length names.sections)) (state_after_all names (opening names) entries).preferences
closed_below names = closed_keep (SectionsBelow (length names.sections)) names (nothing_below (length names.sections)) (changed_below names)
