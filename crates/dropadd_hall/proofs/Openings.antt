-- Clashes in a set of sections, and what a roll and a catalogue give at a place.
use Rattle.std.proofs.Common.{ℕ, zero, suc, ◌≡◌, ◌<◌, ◌≤◌, ◌+◌, ◌++◌, ◌∙◌, Bool, true, false, List, [], ◌∷◌, length, take, get_or, arith, refl, sym, ap, subst, Some, inl, inr}
use Rattle.std.specs.Prelude.{option_map, slice_get, slice_index_or}
use Rattle.std.specs.List.{list_any}
use Rattle.std.proofs.lemmas.Bool.{cases_Bool, true≢false, false≢true}
use Rattle.std.proofs.lemmas.List.{get_or-map, length-map, map_more}
use Rattle.std.proofs.lemmas.List.Folds.{list_any_at, list_any_none}
use Rattle.market_units.specs.Totals.{total}
use Rattle.market_units.proofs.Sums.{total-append}
use Rattle.market_units.specs.declared.units.SectionNo.{SectionNo}
use Rattle.course_catalog.specs.Catalog.{CatalogData}
use Rattle.course_catalog.specs.Sections.{Section, section_at, sections_clash}
use Rattle.student_roll.specs.Students.{RollData, Student, no_student}
use Rattle.market_units.specs.Members.{has}
use Rattle.bundle_rules.specs.Ordinals.{ordinals}
use Rattle.bundle_rules.specs.Existence.Members.{has-cases, has-here, has-there}
use Rattle.dropadd_desk.specs.Openings.{IsAllowed}

-- where none of a set passes a test
pub any_none : (p : ℕ → Bool) (set : List ℕ) → list_any p set ≡ false → (t : ℕ) → has set t ≡ true → p t ≡ false
any_none p [] none t there = absurd (false≢true there)
any_none p (x ∷ xs) none t there = elim (cases_Bool (p x)) [
  | inl here ↦ let all : list_any p (x ∷ xs) ≡ true = rw here refl in absurd (true≢false (sym all ∙ none))
  | inr other ↦
      let rest : list_any p xs ≡ false = rw other at none in
      elim (has-cases x xs t there) [ inl same ↦ subst (λ n. p n ≡ false) same other | inr behind ↦ any_none p xs rest t behind ]
]

pub none_any : (p : ℕ → Bool) (set : List ℕ) → ((t : ℕ) → has set t ≡ true → p t ≡ false) → list_any p set ≡ false
none_any p [] each = refl
none_any p (x ∷ xs) each = rw (each x (has-here x xs)) (none_any p xs (λ t there. each t (has-there x xs t there)))

-- whether two of a set clash
abbrev pub two_clash : List Section → List ℕ → Bool
two_clash sections set = list_any (λ s. list_any (λ t. sections_clash sections s t) set) set

-- and none does, where none of its items clashes with one of them
pub none_clashing : (sections : List Section) (items : List SectionNo) (d : SectionNo)
    → ((j : ℕ) → j < length items → list_any (λ t. sections_clash sections (get_or items j d).0 t) (ordinals items) ≡ false)
    → two_clash sections (ordinals items) ≡ false
none_clashing sections items d each =
    list_any_none (λ s. list_any (λ t. sections_clash sections s t) (ordinals items)) (ordinals items)
    (λ k e low.
    let inside : k < length items = subst (λ n. k < n) (length-map items (λ (section : SectionNo). section.0)) low in
    subst (λ s. list_any (λ t. sections_clash sections s t) (ordinals items) ≡ false)
    (sym (get_or-map (λ (section : SectionNo). section.0) items k d e inside)) (each k inside))

pub some_clashing : (sections : List Section) (items : List SectionNo) (k : ℕ) (d : SectionNo) → k < length items
    → list_any (λ t. sections_clash sections (get_or items k d).0 t) (ordinals items) ≡ true → two_clash sections (ordinals items) ≡ true
some_clashing sections items k d low is =
    list_any_at (λ s. list_any (λ t. sections_clash sections s t) (ordinals items)) (ordinals items) k d.0
    (subst (λ n. k < n) (sym (length-map items (λ (section : SectionNo). section.0))) low)
    (subst (λ s. list_any (λ t. sections_clash sections s t) (ordinals items) ≡ true) (sym (get_or-map (λ (section : SectionNo). section.0) items k d d.0 low)) is)

pub apart : (sections : List Section) (set : List ℕ) → two_clash sections set ≡ false → (s t : ℕ) → has set s ≡ true → has set t ≡ true
    → sections_clash sections s t ≡ false
apart sections set none s t there there' =
    any_none (λ u. sections_clash sections s u) set (any_none (λ r. list_any (λ u. sections_clash sections r u) set) set none s there) t there'

pub none_clash : (sections : List Section) (set : List ℕ) → ((s t : ℕ) → has set s ≡ true → has set t ≡ true → sections_clash sections s t ≡ false)
    → two_clash sections set ≡ false
none_clash sections set each =
    none_any (λ r. list_any (λ u. sections_clash sections r u) set) set
    (λ s there. none_any (λ u. sections_clash sections s u) set (λ t there'. each s t there there'))

-- what a student of the roll has
pub student_has : (f : Student → ℕ) (students : List Student) (n v : ℕ) → option_map f (slice_get students n) ≡ Some v
    → f (slice_index_or students n no_student) ≡ v
student_has f [] n v e = absurd (cc e)
student_has f (x ∷ xs) zero v e = cc e
student_has f (x ∷ xs) (suc n) v e = student_has f xs n v e

-- the credits of one section more
pub credits_more : (sections : List Section) (xs : List SectionNo) (i : ℕ) (d : SectionNo) → i < length xs
    → total (λ s. (section_at sections s).credits) (ordinals (take i xs)) + (section_at sections (get_or xs i d).0).credits
    ≡ total (λ s. (section_at sections s).credits) (ordinals (take (i + 1) xs))
credits_more sections xs i d low =
    let all = total-append (λ s. (section_at sections s).credits) (ordinals (take i xs)) ((get_or xs i d).0 ∷ []) in
    let whole : total (λ s. (section_at sections s).credits) (ordinals (take (i + 1) xs))
    ≡ total (λ s. (section_at sections s).credits) (ordinals (take i xs) ++ (get_or xs i d).0 ∷ []) =
    ap (total (λ s. (section_at sections s).credits)) (map_more (λ (section : SectionNo). section.0) xs i d low) in
    omega (arith, all, whole)

-- whether a set may be held, by what the tables give
module _ (catalog : CatalogData) (roll : RollData) (i : ℕ) (set : List ℕ) where
  pub allowed : (courses credits : ℕ) → option_map (λ (student : Student). student.courses) (slice_get roll.students i) ≡ Some courses
      → option_map (λ (student : Student). student.credits) (slice_get roll.students i) ≡ Some credits
      → length set ≤ courses → total (λ s. (section_at catalog.sections s).credits) set ≤ credits → two_clash catalog.sections set ≡ false
      → IsAllowed (record { catalog = catalog; roll = roll }) i set
  allowed courses credits a b few cheap none = record {
    apart = apart catalog.sections set none;
    credits =
        subst (λ n. total (λ s. (section_at catalog.sections s).credits) set ≤ n)
        (sym (student_has (λ (student : Student). student.credits) roll.students i credits b)) cheap;
    courses = subst (λ n. length set ≤ n) (sym (student_has (λ (student : Student). student.courses) roll.students i courses a)) few;
  }

  pub too_many : (courses : ℕ) → option_map (λ (student : Student). student.courses) (slice_get roll.students i) ≡ Some courses → courses < length set
      → ¬ IsAllowed (record { catalog = catalog; roll = roll }) i set
  too_many courses a many is =
      let few : length set ≤ courses =
      subst (λ n. length set ≤ n) (student_has (λ (student : Student). student.courses) roll.students i courses a) is.courses in
      absurd (omega (arith, few, many))

  pub too_dear : (credits : ℕ) → option_map (λ (student : Student). student.credits) (slice_get roll.students i) ≡ Some credits
      → credits < total (λ s. (section_at catalog.sections s).credits) set → ¬ IsAllowed (record { catalog = catalog; roll = roll }) i set
  too_dear credits b dear is =
      let cheap : total (λ s. (section_at catalog.sections s).credits) set ≤ credits =
      subst (λ n. total (λ s. (section_at catalog.sections s).credits) set ≤ n)
      (student_has (λ (student : Student). student.credits) roll.students i credits b) is.credits in
      absurd (omega (arith, cheap, dear))

  pub clashing : two_clash catalog.sections set ≡ true → ¬ IsAllowed (record { catalog = catalog; roll = roll }) i set
  clashing some is = absurd (true≢false (sym some ∙ none_clash catalog.sections set is.apart))
