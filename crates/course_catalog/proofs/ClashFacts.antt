-- Clashes by course numbers, and by the names of courses.
use Rattle.std.proofs.Common.{ℕ, ◌<◌, ◌≡◌, ◌≢◌, ◌⊎◌, ◌↔◌, ◌∙◌, IsTrue, Bool, true, false, not, ◌&&◌, ◌||◌, nat_eq, List, [], length, map, get_or, refl, sym, ap, inl, inr, arith}
use Rattle.std.specs.List.{list_any}
use Rattle.std.specs.Str.{bytes_eq}
use Rattle.std.specs.Ordering.{nat_cmp}
use Rattle.std.specs.FinSet as set
use Rattle.std.proofs.lemmas.Bool.Decides.{nat_tests}
use Rattle.std.proofs.lemmas.List.{get_or-map, length-map}
use Rattle.std.proofs.lemmas.List.Folds.{list_any_at}
use Rattle.std.proofs.lemmas.Slice.Eq.{bytes_eq-Decides}
use Rattle.plain_facts.proofs.Lists.{bytes_eq-other_way}
use Rattle.timetable_rules.specs.Overlap.{some_overlap}
use Rattle.timetable_rules.specs.Clash.{IsClashTable, tells}
use Rattle.timetable_rules.specs.Parts.{no_part, share_part}
use Rattle.timetable_rules.proofs.Relations.{eqb-other_way, share_part-other_way, share_part-relation, some_overlap-other_way, some_overlap-relation}
use Rattle.course_catalog.specs.Sections.{Section, SectionsClash, section_at, sections_clash}
use Rattle.course_catalog.specs.Courses.{course_number, course_numbers, courses_of}
use Rattle.course_catalog.specs.Laws.{AreMutual}
use Rattle.course_catalog.proofs.Occurrences.{any-first_occurrences, same-bytes_eq, same_number, same_place}

-- the number of a section's course
pub course_number_at : (sections : List Section) (s : ℕ) → s < length sections
    → get_or (course_numbers sections) s 0 ≡ course_number sections (section_at sections s).course
course_number_at sections s inside = get_or-map (λ (t : Section). course_number sections t.course) sections s _ 0 inside

-- a section's course is among the courses
course_known : (sections : List Section) (s : ℕ) → s < length sections → list_any (bytes_eq (section_at sections s).course) (courses_of sections) ≡ true
course_known sections s inside =
    let course = (section_at sections s).course in
    let names = map (λ (t : Section). t.course) sections in
    let here : get_or names s [] ≡ course = get_or-map (λ (t : Section). t.course) sections s _ [] inside in
    let within : s < length names = omega (arith, length-map sections (λ (t : Section). t.course)) in
    any-first_occurrences course names ∙ list_any_at (bytes_eq course) names s [] within (same-bytes_eq course (get_or names s []) (sym here))

same_course : (sections : List Section) (a b : ℕ) → a < length sections → b < length sections
    → nat_eq (get_or (course_numbers sections) a 0) (get_or (course_numbers sections) b 0)
    ≡ bytes_eq (section_at sections a).course (section_at sections b).course
same_course sections a b first second =
    rw (course_number_at sections a first, course_number_at sections b second)
    (same_number (courses_of sections) (section_at sections a).course (section_at sections b).course (course_known sections a first)
    (course_known sections b second))

-- a table of clashes by course numbers tells the clashes of the sections
pub tells_sections_clash : (sections : List Section) (table : List (set.FinSet nat_cmp)) (a b : ℕ) → a < length sections → b < length sections
    → IsClashTable (map (λ s. s.meetings) sections) (course_numbers sections) (map (λ s. s.parts) sections) table
    → tells table a b ≡ sections_clash sections a b
tells_sections_clash sections table a b first second is =
    let long : length (course_numbers sections) ≡ length sections = length-map sections (λ (t : Section). course_number sections t.course) in
    let ones : get_or (map (λ (t : Section). t.meetings) sections) a [] ≡ (section_at sections a).meetings =
    get_or-map (λ (t : Section). t.meetings) sections a _ [] first in
    let others : get_or (map (λ (t : Section). t.meetings) sections) b [] ≡ (section_at sections b).meetings =
    get_or-map (λ (t : Section). t.meetings) sections b _ [] second in
    let part : get_or (map (λ (t : Section). t.parts) sections) a no_part ≡ (section_at sections a).parts =
    get_or-map (λ (t : Section). t.parts) sections a _ no_part first in
    let other_part : get_or (map (λ (t : Section). t.parts) sections) b no_part ≡ (section_at sections b).parts =
    get_or-map (λ (t : Section). t.parts) sections b _ no_part second in
    is.test a b (omega arith) (omega arith)
    ∙ rw (same_course sections a b first second, ones, others, part, other_part) refl

clash_by_test : (a b : ℕ) (same shared met : Bool) (P Q R : Type 0) → IsTrue same ↔ P → IsTrue shared ↔ Q → IsTrue met ↔ R
    → not (nat_eq a b) && (same || (shared && met)) ≡ true → (a ≢ b) × (P ⊎ (Q × R))
clash_by_test a b true shared met P Q R p q r t = (grind (arith, nat_tests), inl (p.0 refl))
clash_by_test a b false true true P Q R p q r t = (grind (arith, nat_tests), inr (q.0 refl, r.0 refl))
clash_by_test a b false true false P Q R p q r t = absurd (grind (arith, nat_tests))
clash_by_test a b false false met P Q R p q r t = absurd (grind (arith, nat_tests))

test_by_clash : (a b : ℕ) (same shared met : Bool) (P Q R : Type 0) → IsTrue same ↔ P → IsTrue shared ↔ Q → IsTrue met ↔ R → a ≢ b → P ⊎ (Q × R)
    → not (nat_eq a b) && (same || (shared && met)) ≡ true
test_by_clash a b same shared met P Q R p q r different (inl yes_p) = let t = p.1 yes_p in grind (arith, nat_tests)
test_by_clash a b same shared met P Q R p q r different (inr (yes_q, yes_r)) = let t = q.1 yes_q in let u = r.1 yes_r in grind (arith, nat_tests)

-- the test of clashing sections is the relation
pub sections_clash-relation : (sections : List Section) (a b : ℕ) → IsTrue (sections_clash sections a b) ↔ SectionsClash sections a b
sections_clash-relation sections a b =
    let one = section_at sections a in
    let other = section_at sections b in
    let same = bytes_eq-Decides one.course other.course in
    let shared = share_part-relation one.parts other.parts in
    let met = some_overlap-relation one.meetings other.meetings in (
      λ t. let both = clash_by_test a b (bytes_eq one.course other.course) (share_part one.parts other.parts) (some_overlap one.meetings other.meetings) _ _ _ same shared met t in record {
        different = both.0;
        cause = both.1;
      },
      λ clash. test_by_clash a b (bytes_eq one.course other.course) (share_part one.parts other.parts) (some_overlap one.meetings other.meetings) _ _ _ same
          shared met clash.different clash.cause,
    )

-- two sections clash whichever is named first, and none with itself
pub clashes_mutual : (sections : List Section) (a b : ℕ) → AreMutual sections a b
clashes_mutual sections a b =
    let one = section_at sections a in
    let other = section_at sections b in
    record {
      other_way =
          rw (
            eqb-other_way a b,
            bytes_eq-other_way one.course other.course,
            share_part-other_way one.parts other.parts,
            some_overlap-other_way one.meetings other.meetings,
          )
          refl;
      not_itself = grind (arith, nat_tests);
    }

-- one number exactly where one course
pub one_number-one_course : (sections : List Section) (a b : ℕ) → a < length sections → b < length sections
    → (course_number sections (section_at sections a).course ≡ course_number sections (section_at sections b).course)
    ↔ ((section_at sections a).course ≡ (section_at sections b).course)
one_number-one_course sections a b first second = (
  same_place (courses_of sections) (section_at sections a).course (section_at sections b).course (course_known sections a first)
      (course_known sections b second),
  λ e. ap (course_number sections) e,
)
