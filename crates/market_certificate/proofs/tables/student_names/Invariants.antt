use Rattle.std.proofs.Common.{◌≡◌, map, take}
use Rattle.market_units.specs.Name.{name_bytes}
use Rattle.student_roll.specs.Students.{names_of}
use Rattle.market_certificate.proofs.tables.student_names.Given as goal

abbrev pub invariant-loop-student : goal.invariant-loop-student
invariant-loop-student l = map name_bytes l.names.items ≡ names_of (take l.student l.roll.students)
