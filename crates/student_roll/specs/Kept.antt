-- How a roll keeps its students.
use Rattle.std.specs.Prelude.{◌≡◌, List}
use Rattle.market_units.specs.declared.names.Name.{Name}
use Rattle.table_records.specs.Reading.{bytes_of}
use Rattle.student_roll.specs.Students.{IsRoll, RollData, names_of}

-- the names stand beside the students, in one order
pub record KeepsStudents (keys : List Name) (roll : RollData) : Type 0 where
  pub names : bytes_of keys ≡ names_of roll.students
  pub is_roll : IsRoll roll
