-- The lines of the students so far.
use Rattle.std.proofs.Common.{ℕ, ◌≡◌, ◌+◌, ◌<◌, List, [], ◌∷◌, ◌++◌, length, take, get_or, ap, sym, arith, ◌∙◌, append_assoc}
use Rattle.std.specs.Prelude.{Some, option_map, slice_get}
use Rattle.std.proofs.lemmas.List.{append-nil, length-take-le, take_more}
use Rattle.plain_facts.proofs.Lists.{read_at}
use Rattle.course_catalog.specs.Sections.{Section}
use Rattle.student_roll.specs.Students.{Student}
use Rattle.preference_desk.specs.StudentPreferences.{StudentPreferences}
use Rattle.preference_text.specs.Texts.{student_text, wanted_text}

one_more : (sections : List Section) (students : List Student) (wanted : List StudentPreferences) (s : Student) (w : StudentPreferences)
    → length students ≡ length wanted
    → wanted_text sections (students ++ s ∷ []) (wanted ++ w ∷ []) ≡ wanted_text sections students wanted ++ student_text sections s.name w
one_more sections [] [] s w same = append-nil (student_text sections s.name w)
one_more sections (t ∷ students) (v ∷ wanted) s w same =
    ap (λ lines. student_text sections t.name v ++ lines) (one_more sections students wanted s w (omega arith))
    ∙ sym (append_assoc (student_text sections t.name v) (wanted_text sections students wanted) (student_text sections s.name w))
one_more sections [] (v ∷ wanted) s w same = absurd (omega arith)
one_more sections (t ∷ students) [] s w same = absurd (omega arith)

-- a text with the lines of one student more
pub student_more : (sections : List Section) (students : List Student) (wanted : List StudentPreferences) (n : ℕ) (d : Student) (e : StudentPreferences)
    (name begun text new : List ℕ)
    → length wanted ≡ length students → n < length students → option_map (λ (s : Student). s.name) (slice_get students n) ≡ Some name
    → text ≡ begun ++ wanted_text sections (take n students) (take n wanted) → new ≡ text ++ student_text sections name (get_or wanted n e)
    → new ≡ begun ++ wanted_text sections (take (n + 1) students) (take (n + 1) wanted)
student_more sections students wanted n d e name begun text new same inside named so is =
    let front = wanted_text sections (take n students) (take n wanted) in
    let last = student_text sections (get_or students n d).name (get_or wanted n e) in
    let long : length (take n students) ≡ length (take n wanted) = length-take-le n students (omega arith) ∙ sym (length-take-le n wanted (omega arith)) in
    let more : wanted_text sections (take (n + 1) students) (take (n + 1) wanted) ≡ front ++ last =
    rw (take_more students n d inside, take_more wanted n e (omega arith))
    (one_more sections (take n students) (take n wanted) (get_or students n d) (get_or wanted n e) long) in
    is
    ∙ ap (λ name. text ++ student_text sections name (get_or wanted n e)) (read_at (λ (s : Student). s.name) students n name d named)
    ∙ ap (λ front. front ++ last) so
    ∙ append_assoc begun front last
    ∙ ap (λ lines. begun ++ lines) (sym more)
