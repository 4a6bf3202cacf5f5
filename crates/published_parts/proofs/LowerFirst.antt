-- Of each adjusted pair in the closed preferences the lower section comes first.
use Rattle.std.proofs.Common.{ℕ, ◌≡◌, ◌≢◌, ◌<◌, true, not, ◌&&◌, List, get_or, refl, arith}
use Rattle.std.specs.Prelude.{ℤ, All, min, max}
use Rattle.std.specs.Str.{bytes_eq}
use Rattle.std.proofs.lemmas.Bool.{and_parts, not-false}
use Rattle.std.proofs.lemmas.List.Elements.{All-nil, All-set}
use Rattle.market_units.specs.Name.{name_bytes}
use Rattle.utility_language.specs.declared.commands.Command.{Command}
use Rattle.utility_language.specs.declared.commands.Command.TheVariants.{Rate, Pair, Clear, Close, Unreadable}
use Rattle.preference_desk.specs.declared.entry.Entry.{Entry}
use Rattle.preference_desk.specs.DeskNames.{DeskNames, has_name, ordinal_of}
use Rattle.preference_desk.specs.DeskStep.{DeskState, is_done, changed, reply_to}
use Rattle.preference_desk.specs.Journals.{closed_preferences}
use Rattle.preference_desk.specs.StudentPreferences.{no_preferences, pair_cmp, pair_of}
use Rattle.preference_desk.proofs.Keeping.{at_or_default, closed_keep, done_skips, pair_keeps}
use Rattle.preference_desk.proofs.NameLemmas.{other_ordinals}
use Rattle.preference_desk.proofs.RowLemmas.{entries-nothing}
use Rattle.market_menus.specs.Wanted.{HasLowerFirst}

nothing_lower : HasLowerFirst no_preferences
nothing_lower = rw (entries-nothing {K = ℕ × ℕ} {X = ℤ} pair_cmp) (All-nil (λ (adjusted : (ℕ × ℕ) × ℤ). adjusted.0.0 < adjusted.0.1))

-- two different numbers as a pair
lower_of : (a b : ℕ) → a ≢ b → min a b < max a b
lower_of a b apart = omega arith

changed_lower : (names : DeskNames) (state : DeskState) (command : Command) → All HasLowerFirst state.preferences
    → is_done (reply_to names state command) ≡ true → All HasLowerFirst (changed names state command).preferences
changed_lower names state (Rate student section n) each done =
    All-set HasLowerFirst state.preferences _ _
    (at_or_default HasLowerFirst state.preferences (ordinal_of names.students student) no_preferences each nothing_lower) each
changed_lower names state (Pair student first second n) each done =
    let open' = done_skips state.closed _ _ refl done in
    let known = done_skips (not (has_name names.students student)) _ _ refl open'.1 in
    let listed = done_skips (not (has_name names.sections first && has_name names.sections second)) _ _ refl known.1 in
    let apart = done_skips (bytes_eq (name_bytes first) (name_bytes second)) _ _ refl listed.1 in
    let have = and_parts _ _ (not-false _ listed.0) in
    let other : ordinal_of names.sections first ≢ ordinal_of names.sections second =
    other_ordinals names.sections first second (ordinal_of names.sections first) (ordinal_of names.sections second) have.0 have.1 refl refl apart.0 in
    let at = at_or_default HasLowerFirst state.preferences (ordinal_of names.students student) no_preferences each nothing_lower in
    All-set HasLowerFirst state.preferences _ _
    (pair_keeps (λ (pair : ℕ × ℕ). pair.0 < pair.1) _ (pair_of (ordinal_of names.sections first) (ordinal_of names.sections second)) n at
    (lower_of (ordinal_of names.sections first) (ordinal_of names.sections second) other))
    each
changed_lower names state (Clear student) each done = All-set HasLowerFirst state.preferences _ no_preferences nothing_lower each
changed_lower names state Close each done = each
changed_lower names state Unreadable each done = each

pub closed_lower : (names : DeskNames) (journal : List Entry) → All HasLowerFirst (closed_preferences names journal)
closed_lower names = closed_keep HasLowerFirst names nothing_lower (changed_lower names)

-- what a student wants has the lower section of each pair first
pub wanted_lower : (names : DeskNames) (journal : List Entry) (student : ℕ) → HasLowerFirst (get_or (closed_preferences names journal) student no_preferences)
wanted_lower names journal student =
    at_or_default HasLowerFirst (closed_preferences names journal) student no_preferences (closed_lower names journal) nothing_lower
