-- The students of a roll, and the roll.
use Rattle.std.specs.Prelude.{ℕ, ◌≡◌, ◌+◌, ◌≤◌, List, [], All, length, map}
use Rattle.std.specs.List.{IsDistinct}
use Rattle.std.specs.Str.{bytes_eq}
use Rattle.market_units.specs.declared.limits.TheConstants.{MAX_BASE, MAX_COURSES, MAX_CREDITS, MAX_STUDENTS}
use Rattle.market_units.specs.Names.{IsName}

-- a student: the name, the base and what is carried over, both in tokens, and the caps on credits
-- and courses
pub record Student : Type 0 where
  pub name : List ℕ
  pub base : ℕ
  pub credits : ℕ
  pub courses : ℕ
  pub carry : ℕ

-- the ranges of a student
pub record IsStudent (student : Student) : Type 0 where
  pub name : IsName student.name
  pub tokens : student.base + student.carry ≤ MAX_BASE
  pub credits : student.credits ≤ MAX_CREDITS
  pub courses : student.courses ≤ MAX_COURSES

-- a student that a table of this version may list: in version 1 nothing is carried over
pub record IsListed (version : ℕ) (student : Student) : Type 0 where
  pub is_student : IsStudent student
  pub fresh : version ≡ 1 → student.carry ≡ 0

-- the student that a number beyond the last one stands for: of no name, with neither tokens nor
-- caps
abbrev pub no_student : Student
no_student = record { name = []; base = 0; credits = 0; courses = 0; carry = 0 }

-- the names of students, in order
abbrev pub names_of : List Student → List (List ℕ)
names_of students = map (λ student. student.name) students

-- the student of this name and these caps, with base 0 and nothing carried over
abbrev pub single_student : List ℕ → ℕ → ℕ → Student
single_student name credits courses =
    record { name = name; base = 0; credits = credits; courses = courses; carry = 0 }

-- a roll: the version of its table, and its students in the order of the table
pub record RollData : Type 0 where
  pub version : ℕ
  pub students : List Student

-- of version 1 or 2; at most 2,000 students, each in its ranges, no two of one name; in version 1
-- nothing is carried over
pub record IsRoll (roll : RollData) : Type 0 where
  pub some_version : 1 ≤ roll.version
  pub known_version : roll.version ≤ 2
  pub few : length roll.students ≤ MAX_STUDENTS
  pub each : All (IsListed roll.version) roll.students
  pub distinct : IsDistinct bytes_eq (names_of roll.students)
