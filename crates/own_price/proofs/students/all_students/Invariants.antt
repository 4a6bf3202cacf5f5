use Rattle.std.proofs.Common.{◌≡◌, map}
use Rattle.bundle_rules.specs.Places.{places_from}
use Rattle.own_price.proofs.students.all_students.Given as goal

abbrev pub invariant-loop-student : goal.invariant-loop-student
invariant-loop-student l = map (λ student. student.0) l.students.items ≡ places_from 0 l.student
