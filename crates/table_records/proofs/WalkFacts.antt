-- What a record says once each of its columns was looked at.
use Rattle.std.proofs.Common.{subst, length-append, map, [], ◌∷◌, ◌++◌, ◌≤◌, append_assoc, Err, inl, inr, nat_le, ◌≡◌, ◌∙◌, ◌+◌, ◌==◌, ℕ, Bool, true, false, cond, List, length, Option, Some, None, refl, sym, ap, arith, Result, Ok}
use Rattle.std.specs.Prelude.{position, All, IfSome}
use Rattle.std.proofs.lemmas.List.Elements.{All-nil, All-push}
use Rattle.std.specs.List.{IsDistinct}
use Rattle.std.specs.Cmp.Lexicographic.{pointwise}
use Rattle.std.proofs.lemmas.Bool.{cases_Bool}
use Rattle.std.proofs.lemmas.List.{append-nil, length-map, map-append}
use Rattle.std.specs.Str.{bytes_eq}
use Rattle.std.proofs.lemmas.Bool.Decides.{Decides-eqb, nat_tests}
use Rattle.table_records.specs.Columns.{is_name, name_of}
use Rattle.table_records.specs.Records.{first_field}
use Rattle.table_records.specs.Reading.{IsVersion, Rules, Tells, answer_to, answers, bytes_of, header_of, reading, refusal_if_full, rows_or_first_refusal, unless, version_of, with_row}
use Rattle.table_records.specs.Walk.{TakesRow}
use Rattle.table_records.proofs.HeaderFacts.{place-within}
use Rattle.table_records.specs.declared.rows.Rows.{Rows}
use Rattle.table_records.specs.declared.fault.Fault.TheVariants as fault
use Rattle.table_records.specs.declared.fault.End.{End}
use Rattle.table_records.specs.declared.fault.End.TheVariants as end
use Rattle.table_records.proofs.LawFacts.{goes_on}

-- bytes that are the name of others are these, which are a name
pub named : (test : Bool) (bytes name : List ℕ) → Some name ≡ cond test (Some bytes) None → (test ≡ true) × (name ≡ bytes)
named true bytes name e = (refl, cc)
named false bytes name e = absurd (cc)

-- a record without a fault is the row that its columns make
pub answer_to-row : {R E : Type 0} (rules : Rules R E) (version : ℕ) (names : List (List ℕ)) (fields : List (List ℕ)) (name : List ℕ) (row : R)
    → None ≡ refusal_if_full rules.most (length names)
    → length fields ≡ length (header_of rules.headers version)
    → Some name ≡ name_of (first_field fields)
    → true ≡ rules.knows name
    → None ≡ position (bytes_eq name) names
    → Ok row ≡ rules.row version (length names + 2) fields
    → answer_to rules version names fields ≡ Ok row
answer_to-row rules version names fields name row room width is knows new read =
    let n = named (is_name (first_field fields)) (first_field fields) name is in
    let same : name ≡ first_field fields = n.1 in
    let w : (length fields == length (header_of rules.headers version)) ≡ true = (Decides-eqb _ _).1 width in
    let k : rules.knows (first_field fields) ≡ true = ap rules.knows (sym same) ∙ sym knows in
    let p : position (bytes_eq (first_field fields)) names ≡ None = ap (λ b. position (bytes_eq b) names) (sym same) ∙ sym new in
    rw (sym room, w, n.0, k, p) (sym read)

-- the answers to records, and those to the ones after them
answers-append : {R E : Type 0} (rules : Rules R E) (version : ℕ) (names : List (List ℕ)) (xs ys : List (List (List ℕ)))
    → answers rules version names (xs ++ ys) ≡ answers rules version names xs ++ answers rules version (names ++ map first_field xs) ys
answers-append {R = R} {E = E} rules version names [] ys = ap (λ (n : List (List ℕ)). answers rules version n ys) (sym (append-nil names))
answers-append {R = R} {E = E} rules version names (x ∷ xs) ys =
    ap (λ (more : List (Result R E)). answer_to rules version names x ∷ more)
    (answers-append rules version (names ++ first_field x ∷ []) xs ys
    ∙ ap (λ (n : List (List ℕ)). answers rules version (names ++ first_field x ∷ []) xs ++ answers rules version n ys) (append_assoc names (first_field x ∷ []) (map first_field xs)))

-- a row after good answers
first-row : {R E : Type 0} (good : List (Result R E)) (rows : List R) (row : R) → rows_or_first_refusal good ≡ Ok rows
    → rows_or_first_refusal (good ++ Ok row ∷ []) ≡ Ok (rows ++ row ∷ [])
first-row [] rows row e = let none : rows ≡ [] = cc in rw none refl
first-row {R = R} (Ok one ∷ more) rows row e =
    let (before, is, all) = goes_on one (rows_or_first_refusal more) rows e in
    ap (with_row one) (first-row more before row is) ∙ ap (λ (r : List R). Ok (r ++ row ∷ [])) (sym all)
first-row (Err refusal ∷ more) rows row e = absurd (cc)

-- a refusal after good answers is the first
first-refusal : {R E : Type 0} (good : List (Result R E)) (rows : List R) (refusal : E) (rest : List (Result R E)) → rows_or_first_refusal good ≡ Ok rows
    → rows_or_first_refusal (good ++ Err refusal ∷ rest) ≡ Err refusal
first-refusal [] rows refusal rest e = refl
first-refusal (Ok one ∷ more) rows refusal rest e =
    let (before, is, all) = goes_on one (rows_or_first_refusal more) rows e in
    ap (with_row one) (first-refusal more before refusal rest is)
first-refusal (Err other ∷ more) rows refusal rest e = absurd (cc)

-- a record that was read leaves room for it
room : {R E : Type 0} (most : Option (ℕ × E)) (rows : ℕ) (more : List (Option E)) (answer : Result R E) (row : R)
    → unless (refusal_if_full most rows ∷ more) answer ≡ Ok row → IfSome most (λ m. rows + 1 ≤ m.0)
room None rows more answer row e = tt
room (Some (m, refusal)) rows more answer row e =
    elim (cases_Bool (nat_le m rows)) [
      | inl full ↦ let h = rw full at e in absurd (cc)
      | inr open_ ↦ let test : nat_le m rows ≡ false = open_ in grind (arith, nat_tests)
    ]

-- the header was read, and then these records as these rows
pub record HasRead {R E : Type 0} (rules : Rules R E) (name_of : R → List ℕ) (is_row : ℕ → R → Type 0) (first : List (List ℕ)) (later : List (List (List ℕ)))
    (rows : Rows R) : Type 0 where
  pub header : version_of rules.headers first ≡ Some rows.version
  pub known : IsVersion rules.headers rows.version
  pub read : rows_or_first_refusal (answers rules rows.version [] later) ≡ Ok rows.rows.items
  pub names : bytes_of rows.names.keys ≡ map first_field later
  pub named : map name_of rows.rows.items ≡ map first_field later
  pub few : IfSome rules.most (λ most. length rows.rows.items ≤ most.0)
  pub each : All (is_row rows.version) rows.rows.items
  pub distinct : IsDistinct bytes_eq (bytes_of rows.names.keys)

-- the version of a header is one of a table of these headers
pub version_of-known : (headers : List (List (List ℕ))) (fields : List (List ℕ)) (version : ℕ) → version_of headers fields ≡ Some version
    → IsVersion headers version
version_of-known headers fields version is = place-within (pointwise bytes_eq fields) headers version is

none_few : {E : Type 0} (most : Option (ℕ × E)) → IfSome most (λ m. 0 ≤ m.0)
none_few None = tt
none_few (Some most) = omega arith

-- the header alone
pub read-none : {R E : Type 0} (rules : Rules R E) (name_of : R → List ℕ) (is_row : ℕ → R → Type 0) (first : List (List ℕ)) (rows : Rows R)
    → version_of rules.headers first ≡ Some rows.version → rows.names.keys ≡ [] → rows.rows.items ≡ [] → HasRead rules name_of is_row first [] rows
unfolding IsDistinct
read-none rules name_of is_row first rows header keys items = record {
  header = header;
  known = version_of-known rules.headers first rows.version header;
  read = ap Ok (sym items);
  names = ap bytes_of keys;
  named = ap (map name_of) items;
  few = rw items (none_few rules.most);
  each = rw items (All-nil (is_row rows.version));
  distinct = rw keys tt;
}

-- another record than a header
pub read-other : {R E : Type 0} (rules : Rules R E) (first : List (List ℕ)) (later : List (List (List ℕ))) → version_of rules.headers first ≡ None
    → reading rules (first ∷ later) ≡ Err (rules.refusal fault.Header)
read-other rules first later other = rw other refl

-- a record more
pub read-row : {R E : Type 0} (rules : Rules R E) (name_of : R → List ℕ) (is_row : ℕ → R → Type 0) (first : List (List ℕ)) (later : List (List (List ℕ)))
    (fields : List (List ℕ)) (old new : Rows R)
    → HasRead rules name_of is_row first later old → TakesRow rules name_of is_row fields old new
    → HasRead rules name_of is_row first (later ++ fields ∷ []) new
read-row {R = R} {E = E} rules name_of is_row first later fields old new has takes =
    let version = old.version in
    let answer : answer_to rules version (map first_field later) fields ≡ Ok takes.row = rw (← has.names) takes.answer in
    let all : answers rules version [] (later ++ fields ∷ []) ≡ answers rules version [] later ++ Ok takes.row ∷ [] =
    answers-append rules version [] later (fields ∷ []) ∙ ap (λ (a : Result R E). answers rules version [] later ++ a ∷ []) answer in
    let count : length new.rows.items ≡ length (bytes_of old.names.keys) + 1 =
    omega (
      arith,
      ap length takes.rows,
      length-append old.rows.items (takes.row ∷ []),
      length-map old.rows.items name_of,
      ap length has.named,
      ap length has.names,
    ) in
    record {
      header = has.header ∙ ap Some (sym takes.version);
      known = rw takes.version has.known;
      read =
          rw takes.version
          (ap rows_or_first_refusal all ∙ first-row (answers rules version [] later) old.rows.items takes.row has.read ∙ ap Ok (sym takes.rows));
      names = takes.names ∙ ap (λ (n : List (List ℕ)). n ++ first_field fields ∷ []) has.names ∙ sym (map-append first_field later (fields ∷ []));
      named =
          ap (map name_of) takes.rows
          ∙ map-append name_of old.rows.items (takes.row ∷ [])
          ∙ ap (λ (n : List (List ℕ)). n ++ name_of takes.row ∷ []) has.named
          ∙ ap (λ (n : List ℕ). map first_field later ++ n ∷ []) takes.named
          ∙ sym (map-append first_field later (fields ∷ []));
      few =
          subst (λ (n : ℕ). IfSome rules.most (λ most. n ≤ most.0)) (sym count) (room rules.most (length (bytes_of old.names.keys)) _ _ takes.row takes.answer);
      each = rw (takes.version, takes.rows) (All-push (is_row version) old.rows.items takes.row has.each takes.kept);
      distinct = takes.distinct;
    }

-- all records were read
pub read-all : {R E : Type 0} (rules : Rules R E) (name_of : R → List ℕ) (is_row : ℕ → R → Type 0) (first : List (List ℕ)) (later : List (List (List ℕ)))
    (rows : Rows R)
    → HasRead rules name_of is_row first later rows → reading rules (first ∷ later) ≡ Ok (record { version = rows.version; rows = rows.rows.items })
read-all rules name_of is_row first later rows has = rw (has.header, has.read) refl

-- a record that is refused
pub read-refused : {R E : Type 0} (rules : Rules R E) (name_of : R → List ℕ) (is_row : ℕ → R → Type 0) (first : List (List ℕ)) (later : List (List (List ℕ)))
    (fields : List (List ℕ)) (rest : List (List (List ℕ))) (rows : Rows R) (why : End E)
    → HasRead rules name_of is_row first later rows → Tells (answer_to rules rows.version (bytes_of rows.names.keys) fields) why
    → Tells (reading rules ((first ∷ later ++ fields ∷ []) ++ rest)) why
read-refused rules name_of is_row first later fields rest rows end.NoMemory has tells = tt
read-refused {R = R} {E = E} rules name_of is_row first later fields rest rows (end.Refused refusal) has tells =
    let version = rows.version in
    let answer : answer_to rules version (map first_field later) fields ≡ Err refusal = rw (← has.names) tells in
    let all : answers rules version [] ((later ++ fields ∷ []) ++ rest)
    ≡ answers rules version [] later ++ Err refusal ∷ answers rules version (map first_field later ++ first_field fields ∷ []) rest =
    ap (answers rules version []) (append_assoc later (fields ∷ []) rest)
    ∙ answers-append rules version [] later (fields ∷ rest)
    ∙ ap (λ (a : Result R E). answers rules version [] later ++ a ∷ answers rules version (map first_field later ++ first_field fields ∷ []) rest) answer in
    let refused : rows_or_first_refusal (answers rules version [] ((later ++ fields ∷ []) ++ rest)) ≡ Err refusal =
    ap rows_or_first_refusal all ∙ first-refusal (answers rules version [] later) rows.rows.items refusal _ has.read in
    rw (has.header, refused) refl
