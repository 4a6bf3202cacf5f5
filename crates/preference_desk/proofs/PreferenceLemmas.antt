-- What a change of one row makes of the preferences.
use Rattle.std.proofs.Common.{ℕ, zero, suc, ◌≡◌, ◌+◌, ◌<◌, Bool, true, false, cond, List, [], ◌∷◌, ◌++◌, map, length, get_or, set, refl, ap, sym, ◌∙◌, arith}
use Rattle.std.specs.Prelude.{ℤ, replicate}
use Rattle.std.proofs.lemmas.List.{length-map, map-set, map-append}
use Rattle.preference_desk.specs.declared.pairs.Pairs.{Pairs}
use Rattle.preference_desk.specs.declared.preferences.Row.{Row}
use Rattle.preference_desk.specs.declared.ratings.Ratings.{Ratings}
use Rattle.preference_desk.specs.PairsView.{pairs_in}
use Rattle.preference_desk.specs.RatingsView.{ratings_in}
use Rattle.preference_desk.specs.PreferencesView.{wanted_in}
use Rattle.preference_desk.specs.StudentPreferences.{StudentPreferences, no_preferences, with_rating, with_pair}

read_entry : {A B : Type 0} (f : A → B) (xs : List A) (i : ℕ) (d : A) (e : B) → i < length xs → get_or (map f xs) i e ≡ f (get_or xs i d)
read_entry f [] i d e inside = absurd (omega arith)
read_entry f (x ∷ xs) zero d e inside = refl
read_entry f (x ∷ xs) (suc i) d e inside = read_entry f xs i d e (omega arith)

set_as_it_was : {A : Type 0} (xs : List A) (i : ℕ) (d : A) → i < length xs → set xs i (get_or xs i d) ≡ xs
set_as_it_was [] i d inside = refl
set_as_it_was (x ∷ xs) zero d inside = refl
set_as_it_was (x ∷ xs) (suc i) d inside = ap (λ rest. x ∷ rest) (set_as_it_was xs i d (omega arith))

-- what the row at a student's place says
pub row_is : (rows : List Row) (place student : ℕ) (row : Row) → row ≡ get_or rows place row → place ≡ student → student < length (map wanted_in rows)
    → wanted_in row ≡ get_or (map wanted_in rows) student no_preferences
row_is rows place student row e is inside =
    let within : student < length rows = omega (arith, length-map rows wanted_in) in
    ap wanted_in (e ∙ ap (λ at. get_or rows at row) is) ∙ sym (read_entry wanted_in rows student row no_preferences within)

-- a row that changes, or not
pub row_changes : (rows : List Row) (place student : ℕ) (new : Row) (b : Bool) (changed : StudentPreferences) → place ≡ student
    → student < length (map wanted_in rows)
    → wanted_in new ≡ cond b changed (get_or (map wanted_in rows) student no_preferences)
    → map wanted_in (set rows place new) ≡ cond b (set (map wanted_in rows) student changed) (map wanted_in rows)
row_changes rows place student new true changed is inside e =
    map-set wanted_in rows place new ∙ ap (set (map wanted_in rows) place) e ∙ ap (λ at. set (map wanted_in rows) at changed) is
row_changes rows place student new false changed is inside e =
    map-set wanted_in rows place new ∙ ap (set (map wanted_in rows) place) e
    ∙ ap (λ at. set (map wanted_in rows) at (get_or (map wanted_in rows) student no_preferences)) is
    ∙ set_as_it_was (map wanted_in rows) student no_preferences inside

pub rated_row : (row : Row) (new : Ratings) (w : StudentPreferences) (section rating : ℕ) (b : Bool) → wanted_in row ≡ w
    → ratings_in new ≡ cond b (with_rating (ratings_in row.ratings) section rating) (ratings_in row.ratings)
    → wanted_in (record { ratings = new; pairs = row.pairs }) ≡ cond b (record { ratings = with_rating w.ratings section rating; pairs = w.pairs }) w
rated_row row new w section rating true e is =
    let P : StudentPreferences → StudentPreferences = λ w. record { ratings = with_rating w.ratings section rating; pairs = w.pairs } in
    (λ i. record { ratings = is i; pairs = pairs_in row.pairs }) ∙ ap P e
rated_row row new w section rating false e is = (λ i. record { ratings = is i; pairs = pairs_in row.pairs }) ∙ e

pub paired_row : (row : Row) (new : Pairs) (w : StudentPreferences) (pair : ℕ × ℕ) (n : ℤ) (b : Bool) → wanted_in row ≡ w
    → pairs_in new ≡ cond b (with_pair (pairs_in row.pairs) pair n) (pairs_in row.pairs)
    → wanted_in (record { ratings = row.ratings; pairs = new }) ≡ cond b (record { ratings = w.ratings; pairs = with_pair w.pairs pair n }) w
paired_row row new w pair n true e is =
    let P : StudentPreferences → StudentPreferences = λ w. record { ratings = w.ratings; pairs = with_pair w.pairs pair n } in
    (λ i. record { ratings = ratings_in row.ratings; pairs = is i }) ∙ ap P e
paired_row row new w pair n false e is = (λ i. record { ratings = ratings_in row.ratings; pairs = is i }) ∙ e

replicate_more : {A : Type 0} (n : ℕ) (x : A) → replicate n x ++ x ∷ [] ≡ replicate (suc n) x
replicate_more zero x = refl
replicate_more (suc n) x = ap (λ rest. x ∷ rest) (replicate_more n x)

-- one more row of a student who wants nothing
pub one_row_more : (rows : List Row) (n : ℕ) (row : Row) → map wanted_in rows ≡ replicate n no_preferences → wanted_in row ≡ no_preferences
    → map wanted_in (rows ++ row ∷ []) ≡ replicate (n + 1) no_preferences
one_row_more rows n row e is =
    map-append wanted_in rows (row ∷ []) ∙ ap (λ front. front ++ wanted_in row ∷ []) e ∙ ap (λ last. replicate n no_preferences ++ last ∷ []) is
    ∙ replicate_more n no_preferences
    ∙ ap (λ m. replicate m no_preferences) (let m : suc n ≡ n + 1 = omega arith in m)
