-- What students want in the end is such as a desk lets a student have.
use Rattle.std.proofs.Common.{ℕ, ◌==◌, ◌≡◌, ◌<◌, ◌≤◌, ◌+◌, ◌-◌, ◌∙◌, Bool, true, false, not, cond, ◌&&◌, List, [], ◌∷◌, length, refl, ap, sym, arith}
use Rattle.std.specs.Prelude.{ℤ, pos, negsuc, All, int_le, nat_le, nat_lt, unsigned_abs}
use Rattle.std.specs.FinMap.{FinMap, IsAntisymmetric, contains_key, entries, entries-insert, insert, len, len-entries, len-insert, len-remove, nat_cmp-IsAntisymmetric, remove}
use Rattle.std.specs.FinMap.Entries.{by_order, put}
use Rattle.std.specs.Cmp.{IsTotalOrder, nat_cmp_total}
use Rattle.std.specs.Ordering.{eq_by_cmp, nat_cmp}
use Rattle.std.specs.Str.{bytes_eq}
use Rattle.std.specs.declared.cmp.Ordering.{Ordering}
use Rattle.std.specs.declared.cmp.Ordering.TheVariants.{Less, Equal, Greater}
use Rattle.std.proofs.lemmas.Bool.{and_parts, false≢true, not-false}
use Rattle.std.proofs.lemmas.Bool.Decides.{nat_tests}
use Rattle.std.proofs.lemmas.Int.{ints}
use Rattle.std.proofs.lemmas.List.{length-map, length-replicate}
use Rattle.std.proofs.lemmas.List.Elements.{All-cons, All-filter, All-head, All-nil, All-set, All-tail}
use Rattle.market_units.specs.Name.{name_bytes}
use Rattle.utility_language.specs.declared.commands.Command.{Command}
use Rattle.utility_language.specs.declared.commands.Command.TheVariants.{Rate, Pair, Clear, Close, Unreadable}
use Rattle.preference_desk.specs.declared.entry.Entry.{Entry}
use Rattle.preference_desk.specs.DeskNames.{DeskNames, has_name, ordinal_of}
use Rattle.preference_desk.specs.DeskStep.{DeskState, changed, has_no_room_to_pair, has_no_room_to_rate, is_done, is_out_of_range, preferences_at, reply_to, state_after}
use Rattle.preference_desk.specs.Journals.{closed_preferences, opening, state_after_all}
use Rattle.preference_desk.specs.StudentPreferences.{no_preferences, pair_cmp, pair_of, with_pair, with_rating}
use Rattle.preference_desk.proofs.Keeping.{at_or_default, closed_keep, done_skips}
use Rattle.preference_desk.proofs.PairLemmas.{pair_cmp_same, pair_cmp_total}
use Rattle.preference_desk.proofs.RowLemmas.{entries-nothing, entries-remove}
use Rattle.preference_desk.proofs.SectionLemmas.{closed_below}
use Rattle.market_crowd.proofs.CrowdFacts.{sections_known}
use Rattle.market_menus.specs.Limits.{IsLimited, MayBeHad}
use Rattle.published_parts.specs.Journals.{wanted_in}
use Rattle.published_parts.specs.Markets.{Market, names_in}
use Rattle.published_parts.proofs.LowerFirst.{closed_lower}
use Rattle.preference_desk.proofs.JournalLemmas.{changed_rows}

-- a map with at most so many keys, of each of whose values it is so
module _ {K X : Type 0} (R : K → K → Ordering) (o : IsTotalOrder R) (same : IsAntisymmetric R) (V : X → Type 0) (most : ℕ) where
  record Keeps (m : FinMap {K = K} R X) : Type 0 where
    few : length (entries m) ≤ most
    values : All (λ (e : K × X). V e.1) (entries m)

  put_values : (k : K) (v : X) (es : List (K × X)) → All (λ (e : K × X). V e.1) es → V v → All (λ (e : K × X). V e.1) (put R k v es)
  put_values k v [] each here = All-cons (λ (e : K × X). V e.1) (k, v) [] here (All-nil (λ (e : K × X). V e.1))
  put_values k v (e ∷ es) each here =
      let Q : K × X → Type 0 = λ e. V e.1 in
      elim (R k e.0) as (λ r. All (λ (e : K × X). V e.1) (by_order r ((k, v) ∷ e ∷ es) ((e.0, v) ∷ es) (e ∷ put R k v es))) [
        | Less ↦ All-cons Q (k, v) (e ∷ es) here each
        | Equal ↦ All-cons Q (e.0, v) es here (All-tail Q e es each)
        | Greater ↦ All-cons Q e (put R k v es) (All-head Q e es each) (put_values k v es (All-tail Q e es each) here)
      ]

  keeps_without : (m : FinMap {K = K} R X) (k : K) → Keeps m → Keeps (remove m k)
  keeps_without m k keeps = record {
    few = fewer (contains_key m k) (len-remove o m k);
    values = rw (entries-remove R o same m k) (All-filter (λ e. not (eq_by_cmp R k e.0)) (λ (e : K × X). V e.1) (entries m) keeps.values);
  }
    where
      fewer : (b : Bool) → len (remove m k) ≡ cond b (len m - 1) (len m) → length (entries (remove m k)) ≤ most
      fewer true e = omega (arith, e, keeps.few, len-entries m, len-entries (remove m k))
      fewer false e = omega (arith, e, keeps.few, len-entries m, len-entries (remove m k))

  keeps_with : (m : FinMap {K = K} R X) (k : K) (v : X) → Keeps m → V v → (contains_key m k ≡ false → len m < most) → Keeps (insert m k v)
  keeps_with m k v keeps here room = record {
    few = no_more (contains_key m k) refl (len-insert o m k v);
    values = rw (entries-insert o m k v) (put_values k v (entries m) keeps.values here);
  }
    where
      no_more : (b : Bool) → contains_key m k ≡ b → len (insert m k v) ≡ cond b (len m) (len m + 1) → length (entries (insert m k v)) ≤ most
      no_more true has e = omega (arith, e, keeps.few, len-entries m, len-entries (insert m k v))
      no_more false has e = omega (arith, e, room has, len-entries (insert m k v))

-- a rating from 1 to 100, and an adjustment from -200 to 200 and not 0
abbrev IsRating : ℕ → Type 0
IsRating rating = (1 ≤ rating) × (rating ≤ 100)

abbrev IsAdjustment : ℤ → Type 0
IsAdjustment n = (1 ≤ unsigned_abs n) × (unsigned_abs n ≤ 200)

abbrev KeepsRatings : FinMap {K = ℕ} nat_cmp ℕ → Type 0
KeepsRatings = Keeps nat_cmp nat_cmp_total nat_cmp-IsAntisymmetric IsRating 60

abbrev KeepsPairs : FinMap {K = ℕ × ℕ} pair_cmp ℤ → Type 0
KeepsPairs = Keeps pair_cmp pair_cmp_total pair_cmp_same IsAdjustment 200

-- where there is room for one more, it is told so
room_for : (most size n : ℕ) (has : Bool) → (nat_lt 0 size && not has && nat_le most n) ≡ false → (size == 0) ≡ false → has ≡ false → n < most
room_for most size n true e some none = absurd (false≢true (sym none))
room_for most size n false e some none =
    let more : nat_lt 0 size ≡ true = grind (arith, nat_tests) in
    let full : nat_le most n ≡ false = sym (ap (λ b. b && true && nat_le most n) more) ∙ e in
    grind (arith, nat_tests)

low_rating : (n : ℤ) → int_le (pos 0) n ≡ true → int_le n (pos 100) ≡ true → unsigned_abs n ≤ 100
low_rating (pos m) low high = grind (arith, ints, nat_tests)
low_rating (negsuc m) low high = grind (arith, ints, nat_tests)

keeps_rating : (ratings : FinMap {K = ℕ} nat_cmp ℕ) (section rating : ℕ) → KeepsRatings ratings → rating ≤ 100
    → (nat_lt 0 rating && not (contains_key ratings section) && nat_le 60 (len ratings)) ≡ false → KeepsRatings (with_rating ratings section rating)
keeps_rating ratings section rating keeps low room =
    elim (rating == 0) as (λ b. (rating == 0) ≡ b → KeepsRatings (cond b (remove ratings section) (insert ratings section rating))) [
      | true ↦ λ e. keeps_without nat_cmp nat_cmp_total nat_cmp-IsAntisymmetric IsRating 60 ratings section keeps
      | false ↦ λ e.
          let some : 1 ≤ rating = grind (arith, nat_tests) in
          keeps_with nat_cmp nat_cmp_total nat_cmp-IsAntisymmetric IsRating 60 ratings section rating keeps (some, low)
          (room_for 60 rating (len ratings) (contains_key ratings section) room e)
    ] refl

keeps_pair : (pairs : FinMap {K = ℕ × ℕ} pair_cmp ℤ) (pair : ℕ × ℕ) (n : ℤ) → KeepsPairs pairs → unsigned_abs n ≤ 200
    → (nat_lt 0 (unsigned_abs n) && not (contains_key pairs pair) && nat_le 200 (len pairs)) ≡ false → KeepsPairs (with_pair pairs pair n)
keeps_pair pairs pair n keeps low room =
    elim (unsigned_abs n == 0) as (λ b. (unsigned_abs n == 0) ≡ b → KeepsPairs (cond b (remove pairs pair) (insert pairs pair n))) [
      | true ↦ λ e. keeps_without pair_cmp pair_cmp_total pair_cmp_same IsAdjustment 200 pairs pair keeps
      | false ↦ λ e.
          let some : 1 ≤ unsigned_abs n = grind (arith, nat_tests) in
          keeps_with pair_cmp pair_cmp_total pair_cmp_same IsAdjustment 200 pairs pair n keeps (some, low)
          (room_for 200 (unsigned_abs n) (len pairs) (contains_key pairs pair) room e)
    ] refl

-- nobody wants anything at first
nothing_limited : IsLimited no_preferences
nothing_limited = record {
  few_ratings = rw (entries-nothing {K = ℕ} {X = ℕ} nat_cmp) (let h : 0 ≤ 60 = omega arith in h);
  ratings = rw (entries-nothing {K = ℕ} {X = ℕ} nat_cmp) (All-nil (λ (rated : ℕ × ℕ). IsRating rated.1));
  few_pairs = rw (entries-nothing {K = ℕ × ℕ} {X = ℤ} pair_cmp) (let h : 0 ≤ 200 = omega arith in h);
  adjustments = rw (entries-nothing {K = ℕ × ℕ} {X = ℤ} pair_cmp) (All-nil (λ (adjusted : (ℕ × ℕ) × ℤ). IsAdjustment adjusted.1));
}

-- a command that is carried out leaves a student within the limits
changed_limited : (names : DeskNames) (state : DeskState) (command : Command) → All IsLimited state.preferences → is_done (reply_to names state command) ≡ true
    → All IsLimited (changed names state command).preferences
changed_limited names state (Rate student section n) each done =
    let open' = done_skips state.closed _ _ refl done in
    let known = done_skips (not (has_name names.students student)) _ _ refl open'.1 in
    let listed = done_skips (not (has_name names.sections section)) _ _ refl known.1 in
    let range = done_skips (is_out_of_range (Rate student section n)) _ _ refl listed.1 in
    let room =
    done_skips (has_no_room_to_rate (preferences_at state (ordinal_of names.students student)) (ordinal_of names.sections section) (unsigned_abs n)) _ _ refl
    range.1 in
    let ends = and_parts _ _ (not-false _ range.0) in
    let at = at_or_default IsLimited state.preferences (ordinal_of names.students student) no_preferences each nothing_limited in
    let new =
    keeps_rating (preferences_at state (ordinal_of names.students student)).ratings (ordinal_of names.sections section) (unsigned_abs n)
    (record { few = at.few_ratings; values = at.ratings }) (low_rating n ends.0 ends.1) room.0 in
    All-set IsLimited state.preferences _ _ (record { few_ratings = new.few; ratings = new.values; few_pairs = at.few_pairs; adjustments = at.adjustments })
    each
changed_limited names state (Pair student first second n) each done =
    let open' = done_skips state.closed _ _ refl done in
    let known = done_skips (not (has_name names.students student)) _ _ refl open'.1 in
    let listed = done_skips (not (has_name names.sections first && has_name names.sections second)) _ _ refl known.1 in
    let apart = done_skips (bytes_eq (name_bytes first) (name_bytes second)) _ _ refl listed.1 in
    let range = done_skips (is_out_of_range (Pair student first second n)) _ _ refl apart.1 in
    let pair = pair_of (ordinal_of names.sections first) (ordinal_of names.sections second) in
    let room = done_skips (has_no_room_to_pair (preferences_at state (ordinal_of names.students student)) pair (unsigned_abs n)) _ _ refl range.1 in
    let far : nat_lt 200 (unsigned_abs n) ≡ false = range.0 in
    let low : unsigned_abs n ≤ 200 = grind (arith, nat_tests) in
    let at = at_or_default IsLimited state.preferences (ordinal_of names.students student) no_preferences each nothing_limited in
    let new =
    keeps_pair (preferences_at state (ordinal_of names.students student)).pairs pair n (record { few = at.few_pairs; values = at.adjustments }) low room.0 in
    All-set IsLimited state.preferences _ _ (record { few_ratings = at.few_ratings; ratings = at.ratings; few_pairs = new.few; adjustments = new.values }) each
changed_limited names state (Clear student) each done = All-set IsLimited state.preferences _ no_preferences nothing_limited each
changed_limited names state Close each done = each
changed_limited names state Unreadable each done = each

closed_limited : (names : DeskNames) (journal : List Entry) → All IsLimited (closed_preferences names journal)
closed_limited names = closed_keep IsLimited names nothing_limited (changed_limited names)

step_rows : (names : DeskNames) (state : DeskState) (command : Command) (b : Bool)
    → length (cond b (changed names state command) state).preferences ≡ length state.preferences
step_rows names state command true = changed_rows names state command
step_rows names state command false = refl

pub rows_after : (names : DeskNames) (state : DeskState) (journal : List Entry)
    → length (state_after_all names state journal).preferences ≡ length state.preferences
rows_after names state [] = refl
rows_after names state (entry ∷ more) =
    rows_after names (state_after names state entry.command) more ∙ step_rows names state entry.command (is_done (reply_to names state entry.command))

pub wanted_long : (market : Market) (journal : List Entry) → length (wanted_in market journal) ≡ length market.roll.students
wanted_long market journal =
    rows_after (names_in market) (opening (names_in market)) journal ∙ length-replicate (length (names_in market).students) no_preferences
    ∙ length-map market.roll.students _

-- what each student wants in the end, a desk lets it have
pub wanted_limited : (market : Market) (journal : List Entry) → All (MayBeHad (length market.catalog.sections)) (wanted_in market journal)
wanted_limited market journal = λ k d inside.
    let known =
    sections_known (names_in market) market.catalog.sections market.roll.students (wanted_in market journal) refl (closed_below (names_in market) journal) in
    record {
      known = known k d inside;
      lower_first = closed_lower (names_in market) journal k d inside;
      limits = closed_limited (names_in market) journal k d inside;
    }
