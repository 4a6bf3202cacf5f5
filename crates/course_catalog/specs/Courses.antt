-- The courses of a catalogue, numbered from 0 by their first occurrence.
use Rattle.std.specs.Prelude.{ℕ, not, List, [], ◌∷◌, filter, map}
use Rattle.std.specs.List.{position_or_len}
use Rattle.std.specs.Str.{bytes_eq}
use Rattle.course_catalog.specs.Sections.{Section}

-- each name once, where it first occurs
abbrev pub first_occurrences : List (List ℕ) → List (List ℕ)
first_occurrences [] = []
first_occurrences (name ∷ more) =
    name ∷ filter (λ other. not (bytes_eq name other)) (first_occurrences more)

-- the names of the courses, by first occurrence
abbrev pub courses_of : List Section → List (List ℕ)
courses_of sections = first_occurrences (map (λ section. section.course) sections)

-- the number of the course with this name
abbrev pub course_number : List Section → List ℕ → ℕ
course_number sections name = position_or_len (bytes_eq name) (courses_of sections)

-- the numbers of the sections' courses
abbrev pub course_numbers : List Section → List ℕ
course_numbers sections = map (λ section. course_number sections section.course) sections
