-- Lines of names, one more of them.
use Rattle.std.proofs.Common.{ℕ, ◌≡◌, ◌+◌, ◌<◌, List, [], ◌∷◌, ◌++◌, length, map, take, get_or, ap, sym, arith, ◌∙◌, append_assoc}
use Rattle.std.specs.Prelude.{Some, option_map, slice_get}
use Rattle.std.proofs.lemmas.List.{get_or_default, length-map}
use Rattle.bundle_rules.specs.Bundles.{sections_of}
use Rattle.bundle_rules.specs.declared.bundle.Bundle.{Bundle}
use Rattle.course_catalog.specs.Sections.{Section, section_at, section_names}
use Rattle.market_certificate.specs.Lines.{joined}
use Rattle.market_certificate.specs.Texts.{each_line}
use Rattle.market_certificate.proofs.Joins.{each_more, joined_append, text_more, value_at}
use Rattle.student_roll.specs.Students.{Student, names_of}
use Rattle.market_certificate.proofs.SectionNames.{section_name}
use Rattle.demand_text.specs.Texts.{count_line, taken_line}
use Rattle.student_roll.proofs.RollNames.{student_name}

-- a text with the line of one name more
line_more : {V : Type 0} (line : List ℕ → V → List ℕ) (names : List (List ℕ)) (values : List V) (n : ℕ) (name : List ℕ) (value : V) (begun text new : List ℕ)
    → n < length names → n < length values
    → name ≡ get_or names n [] → value ≡ get_or values n value → text ≡ begun ++ joined (each_line line (take n names) (take n values))
    → new ≡ (text ++ line name value) ++ 10 ∷ []
    → new ≡ begun ++ joined (each_line line (take (n + 1) names) (take (n + 1) values))
line_more line names values n name value begun text new inside inside' named valued so is =
    text_more begun text new (line name value) (each_line line (take n names) (take n values)) (each_line line (take (n + 1) names) (take (n + 1) values))
    (each_more line names values n name value inside inside' named valued) so is

-- the same with the line of what one student more takes
pub student_more : (sections : List (List ℕ)) (students : List Student) (bundles : List Bundle) (n : ℕ) (name : List ℕ) (bundle : Bundle)
    (begun text new : List ℕ)
    → length bundles ≡ length students → n < length students
    → option_map (λ (student : Student). student.name) (slice_get students n) ≡ Some name → ((d : Bundle) → bundle ≡ get_or bundles n d)
    → text ≡ begun ++ joined (each_line (taken_line sections) (take n (names_of students)) (take n (map sections_of bundles)))
    → new ≡ (text ++ taken_line sections name (sections_of bundle)) ++ 10 ∷ []
    → new ≡ begun ++ joined (each_line (taken_line sections) (take (n + 1) (names_of students)) (take (n + 1) (map sections_of bundles)))
student_more sections students bundles n name bundle begun text new same inside named is so put =
    line_more (taken_line sections) (names_of students) (map sections_of bundles) n name (sections_of bundle) begun text new
    (omega (arith, length-map students (λ (student : Student). student.name)))
    (omega (arith, length-map bundles sections_of)) (student_name students n name inside named) (value_at sections_of bundles n bundle (omega arith) is) so put

-- the same with the line of one section's count more
pub count_more : (sections : List Section) (counts : List ℕ) (n : ℕ) (name : List ℕ) (count : ℕ) (begun text new : List ℕ) → length counts ≡ length sections
    → n < length sections
    → name ≡ (section_at sections n).name → count ≡ get_or counts n count
    → text ≡ begun ++ joined (each_line count_line (take n (section_names sections)) (take n counts)) → new ≡ (text ++ count_line name count) ++ 10 ∷ []
    → new ≡ begun ++ joined (each_line count_line (take (n + 1) (section_names sections)) (take (n + 1) counts))
count_more sections counts n name count begun text new same inside named is so put =
    line_more count_line (section_names sections) counts n name count begun text new (omega (arith, length-map sections (λ (section : Section). section.name)))
    (omega arith) (named ∙ section_name sections n inside) is so put

-- the bundle at an index is that of the student's number, whatever stands for no bundle
pub bundle_at : (bundles : List Bundle) (n index : ℕ) (bundle : Bundle) → n < length bundles → index ≡ n → bundle ≡ get_or bundles index bundle → (d : Bundle)
    → bundle ≡ get_or bundles n d
bundle_at bundles n index bundle inside same is d = is ∙ ap (λ k. get_or bundles k bundle) same ∙ get_or_default bundles n bundle d inside

-- the count at an index is that of the section's number
pub count_at : (counts : List ℕ) (n index : ℕ) → n < length counts → index ≡ n → get_or counts index 0 ≡ get_or counts n (get_or counts index 0)
count_at counts n index inside same = ap (λ k. get_or counts k 0) same ∙ get_or_default counts n 0 (get_or counts index 0) inside

-- the parts of the text, one behind the other
pub text_whole : (bundles counts : List (List ℕ)) (line error : List ℕ) (begun first second third last : List ℕ) → begun ≡ []
    → first ≡ (begun ++ line) ++ 10 ∷ [] → second ≡ first ++ joined bundles → third ≡ second ++ joined counts
    → last ≡ (third ++ error) ++ 10 ∷ [] → last ≡ joined (line ∷ (bundles ++ (counts ++ error ∷ [])))
text_whole bundles counts line error begun first second third last none begins taken counted ends =
    let one : first ≡ joined (line ∷ []) = begins ∙ ap (λ (text : List ℕ). (text ++ line) ++ 10 ∷ []) none in
    let two : second ≡ joined (line ∷ bundles) = taken ∙ ap (λ (text : List ℕ). text ++ joined bundles) one ∙ sym (joined_append (line ∷ []) bundles) in
    let three : third ≡ joined (line ∷ (bundles ++ counts)) =
    counted ∙ ap (λ (text : List ℕ). text ++ joined counts) two ∙ sym (joined_append (line ∷ bundles) counts) in
    let four : last ≡ joined ((line ∷ (bundles ++ counts)) ++ error ∷ []) =
    ends ∙ append_assoc third error (10 ∷ []) ∙ ap (λ (text : List ℕ). text ++ (error ++ 10 ∷ [])) three
    ∙ sym (joined_append (line ∷ (bundles ++ counts)) (error ∷ [])) in
    four ∙ ap (λ (lines : List (List ℕ)). joined (line ∷ lines)) (append_assoc bundles counts (error ∷ []))
