-- The names of tables, and where each stands.
use Rattle.std.proofs.Common.{ℕ, zero, suc, ◌≡◌, ◌≢◌, ◌+◌, ◌<◌, ◌^◌, Bool, false, List, [], ◌∷◌, ◌++◌, length, map, take, get_or, ap, sym, subst, arith, ◌∙◌, inl, inr}
use Rattle.std.specs.Prelude.{Option, Some, None, IfSome, IfNone, option_map, slice_get}
use Rattle.std.specs.List.{position, position_or_len}
use Rattle.std.specs.Str.{bytes_eq}
use Rattle.std.proofs.lemmas.Bool.{cases_lt, lt-ltb}
use Rattle.std.proofs.lemmas.List.{length-map, map-append, take_more}
use Rattle.std.proofs.lemmas.List.Elements.{All-map, All-weaker}
use Rattle.std.proofs.lemmas.List.Quantifiers.{position-Some}
use Rattle.std.proofs.lemmas.List.Sums.{fails_before_first}
use Rattle.std.proofs.lemmas.Slice.Eq.{bytes_eq-Decides}
use Rattle.market_units.specs.declared.names.Name.{Name}
use Rattle.market_units.specs.Name.{name_bytes}
use Rattle.market_units.specs.Names.{IsName}
use Rattle.course_catalog.specs.Catalog.{CatalogData, IsCatalog}
use Rattle.course_catalog.specs.Catalog as catalogs
use Rattle.course_catalog.specs.Sections.{Section, section_at, no_section, section_names}
use Rattle.student_roll.specs.Students.{RollData, Student, IsRoll, names_of, no_student}
use Rattle.student_roll.specs.Students as rolls
use Rattle.market_certificate.specs.Tables.{AreNames, AreTables, name_at}

pub roll_names : (roll : RollData) → IsRoll roll → AreNames (names_of roll.students)
roll_names roll is = record {
  each =
      All-map IsName (λ (s : Student). s.name) roll.students
      (All-weaker (rolls.IsListed roll.version) (λ (s : Student). IsName s.name) (λ s listed. listed.is_student.name) roll.students is.each);
  distinct = is.distinct;
}

pub catalog_names : (catalog : CatalogData) → IsCatalog catalog → AreNames (section_names catalog.sections)
catalog_names catalog is = record {
  each =
      All-map IsName (λ (s : Section). s.name) catalog.sections
      (All-weaker (catalogs.IsListed catalog.version) (λ (s : Section). IsName s.name) (λ s listed. listed.is_section.name_is) catalog.sections is.each);
  distinct = is.distinct;
}

-- one more name
pub sections_more : (sections : List Section) (names new : List Name) (k : ℕ) (name : Name) → k < length sections
    → map name_bytes names ≡ section_names (take k sections) → name_bytes name ≡ (section_at sections k).name → new ≡ names ++ name ∷ []
    → map name_bytes new ≡ section_names (take (k + 1) sections)
sections_more sections names new k name inside so is pushed =
    ap (map name_bytes) pushed
    ∙ map-append name_bytes names (name ∷ [])
    ∙ ap (λ ns. ns ++ name_bytes name ∷ []) so
    ∙ ap (λ n. section_names (take k sections) ++ n ∷ []) is
    ∙ sym (ap section_names (take_more sections k no_section inside) ∙ map-append (λ (s : Section). s.name) (take k sections) (section_at sections k ∷ []))

named_student : (students : List Student) (k : ℕ) (name : List ℕ) → option_map (λ (s : Student). s.name) (slice_get students k) ≡ Some name
    → name ≡ (get_or students k no_student).name
named_student [] k name e = cc
named_student (s ∷ students) zero name e = cc
named_student (s ∷ students) (suc k) name e = named_student students k name e

pub students_more : (students : List Student) (names new : List Name) (k : ℕ) (name : Name) → k < length students
    → map name_bytes names ≡ names_of (take k students)
    → option_map (λ (s : Student). s.name) (slice_get students k) ≡ Some (name_bytes name) → new ≡ names ++ name ∷ []
    → map name_bytes new ≡ names_of (take (k + 1) students)
students_more students names new k name inside so is pushed =
    ap (map name_bytes) pushed
    ∙ map-append name_bytes names (name ∷ [])
    ∙ ap (λ ns. ns ++ name_bytes name ∷ []) so
    ∙ ap (λ n. names_of (take k students) ++ n ∷ []) (named_student students k (name_bytes name) is)
    ∙ sym (ap names_of (take_more students k no_student inside) ∙ map-append (λ (s : Student). s.name) (take k students) (get_or students k no_student ∷ []))

none_passes : {X : Type 0} (p : X → Bool) (xs : List X) → (position_or_len p xs < length xs → ⊥) → (k : ℕ) (d : X) → k < length xs → p (get_or xs k d) ≡ false
none_passes p xs none k d inside =
    fails_before_first p xs k d (elim (cases_lt (position_or_len p xs) (length xs)) [ inl within ↦ absurd (none within) | inr above ↦ omega arith ])

-- what is found is in its place, and what is not found is nowhere
pub found_within : {S : Type 0} (ordinal : S → ℕ) (r : Option S) (x : List ℕ) (names : List (List ℕ)) → option_map ordinal r ≡ position (bytes_eq x) names
    → IfSome r (λ s. ordinal s < length names)
found_within ordinal None x names e = tt
found_within ordinal (Some s) x names e = (position-Some (bytes_eq x) names (ordinal s) [] (sym e)).0

pub found_named : {S : Type 0} (ordinal : S → ℕ) (r : Option S) (x : List ℕ) (names : List (List ℕ)) → option_map ordinal r ≡ position (bytes_eq x) names
    → IfSome r (λ s. name_at names (ordinal s) ≡ x)
found_named ordinal None x names e = tt
found_named ordinal (Some s) x names e =
    let at = position-Some (bytes_eq x) names (ordinal s) [] (sym e) in sym ((bytes_eq-Decides x (name_at names (ordinal s))).0 at.1)

pub found_none : {S : Type 0} (ordinal : S → ℕ) (r : Option S) (x : List ℕ) (names : List (List ℕ)) → option_map ordinal r ≡ position (bytes_eq x) names
    → IfNone r ((n : ℕ) → n < length names → name_at names n ≢ x)
found_none ordinal (Some s) x names e = tt
found_none ordinal None x names e = λ n inside same.
    let fails = none_passes (bytes_eq x) names (λ within. let t = lt-ltb _ _ within in let found = rw t at e in cc found) n [] inside in
    let passes = (bytes_eq-Decides x (name_at names n)).1 (sym same) in
    cc (fails, passes)

-- bytes that are no name are the name of nobody
pub no_such_name : (names : List (List ℕ)) (bytes : List ℕ) → AreNames names → ¬ IsName bytes → (n : ℕ) → n < length names → name_at names n ≢ bytes
no_such_name names bytes are none n inside e = none (subst IsName e (are.each n [] inside))

pub tables_are : (version : ℕ) (students sections : List (List ℕ)) (roll : RollData) (catalog : CatalogData) → version < 2 ^ 64
    → students ≡ names_of roll.students → sections ≡ section_names catalog.sections → IsRoll roll → IsCatalog catalog
    → AreTables (record { version = version; students = students; sections = sections })
tables_are version students sections roll catalog small named named' is is' = record {
  version = small;
  students = subst AreNames (sym named) (roll_names roll is);
  few_students = omega (arith, ap length named, length-map roll.students (λ (s : Student). s.name), is.few);
  sections = subst AreNames (sym named') (catalog_names catalog is');
  few_sections = omega (arith, ap length named', length-map catalog.sections (λ (s : Section). s.name), is'.few);
}
