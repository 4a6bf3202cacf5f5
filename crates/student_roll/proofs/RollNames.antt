-- The names of students, by their places.
use Rattle.std.proofs.Common.{◌≡◌, ◌<◌, ◌∙◌, ℕ, List, [], length, get_or, sym}
use Rattle.std.specs.Prelude.{Some, option_map, slice_get}
use Rattle.std.proofs.lemmas.List.{get_or-map}
use Rattle.plain_facts.proofs.Lists.{read_at}
use Rattle.student_roll.specs.Students.{Student, names_of, no_student}

pub student_name : (students : List Student) (n : ℕ) (name : List ℕ) → n < length students
    → option_map (λ (student : Student). student.name) (slice_get students n) ≡ Some name → name ≡ get_or (names_of students) n []
student_name students n name inside named =
    read_at (λ (student : Student). student.name) students n name no_student named
    ∙ sym (get_or-map (λ (student : Student). student.name) students n no_student [] inside)
