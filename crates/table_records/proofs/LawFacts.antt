-- The laws, proved.
use Rattle.std.proofs.Common.{◌≡◌, ◌∙◌, List, [], ◌∷◌, ◌++◌, map, Result, Ok, Err, refl, sym, ap}
use Rattle.table_records.specs.Reading.{rows_or_first_refusal, with_row}
use Rattle.table_records.specs.Laws.{NameTest, NumberSpelled, RefusalOfTheFirst, RowsWhereAllAreGood}
use Rattle.table_records.proofs.ColumnFacts.{IsName-from_test, is_name-true, number_of-spelled, spelled-number_of}

pub name_test_law : NameTest
name_test_law bytes = (IsName-from_test bytes, is_name-true bytes)

pub number_spelled_law : NumberSpelled
number_spelled_law max n bytes small = (spelled-number_of max bytes n, λ h. sym (number_of-spelled max bytes n small h.0 h.1))

pub goes_on : {R E : Type 0} (row : R) (read : Result (List R) E) (rows : List R) → with_row row read ≡ Ok rows
    → (before : List R) × (read ≡ Ok before) × (rows ≡ row ∷ before)
goes_on row (Ok before) rows e = (before, refl, cc)
goes_on row (Err refusal) rows e = absurd (cc)

refused_later : {R E : Type 0} (row : R) (read : Result (List R) E) (refusal : E) → with_row row read ≡ Err refusal → read ≡ Err refusal
refused_later row (Ok before) refusal e = absurd (cc)
refused_later row (Err other) refusal e = cc

all_good : {R E : Type 0} (answers : List (Result R E)) (rows : List R) → rows_or_first_refusal answers ≡ Ok rows → answers ≡ map Ok rows
all_good [] rows e = let none : rows ≡ [] = cc in rw none refl
all_good {R = R} {E = E} (Ok row ∷ more) rows e =
    let (before, is, all) = goes_on row (rows_or_first_refusal more) rows e in
    ap (λ (rest : List (Result R E)). Ok row ∷ rest) (all_good more before is) ∙ sym (ap (map Ok) all)
all_good (Err refusal ∷ more) rows e = absurd (cc)

good_rows : {R E : Type 0} (rows : List R) → rows_or_first_refusal {R = R} {E = E} (map Ok rows) ≡ Ok rows
good_rows [] = refl
good_rows (row ∷ more) = ap (with_row row) (good_rows more)

pub rows_where_all_are_good_law : {R E : Type 0} → RowsWhereAllAreGood R E
rows_where_all_are_good_law answers rows = (all_good answers rows, λ e. ap rows_or_first_refusal e ∙ good_rows rows)

first_bad : {R E : Type 0} (answers : List (Result R E)) (refusal : E) → rows_or_first_refusal answers ≡ Err refusal
    → (before : List R) × (after : List (Result R E)) × (answers ≡ map Ok before ++ Err refusal ∷ after)
first_bad [] refusal e = absurd (cc)
first_bad {R = R} {E = E} (Ok row ∷ more) refusal e =
    let (before, after, is) = first_bad more refusal (refused_later row (rows_or_first_refusal more) refusal e) in
    (row ∷ before, after, ap (λ (rest : List (Result R E)). Ok row ∷ rest) is)
first_bad {R = R} {E = E} (Err other ∷ more) refusal e = let same : Err other ≡ Err refusal = cc in ([], more, ap (λ (first : Result R E). first ∷ more) same)

after_good : {R E : Type 0} (before : List R) (refusal : E) (after : List (Result R E))
    → rows_or_first_refusal (map Ok before ++ Err refusal ∷ after) ≡ Err refusal
after_good [] refusal after = refl
after_good (row ∷ more) refusal after = ap (with_row row) (after_good more refusal after)

pub refusal_of_the_first_law : {R E : Type 0} → RefusalOfTheFirst R E
refusal_of_the_first_law answers refusal = (first_bad answers refusal, λ h. ap rows_or_first_refusal h.2 ∙ after_good h.0 refusal h.1)
