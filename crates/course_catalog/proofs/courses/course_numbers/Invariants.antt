use Rattle.std.proofs.Common.{take}
use Rattle.table_records.specs.Reading.{bytes_of}
use Rattle.course_catalog.proofs.CourseFacts.{Numbered}
use Rattle.course_catalog.proofs.courses.course_numbers.Given as goal

abbrev pub invariant-loop-section : goal.invariant-loop-section
invariant-loop-section l = Numbered (take l.section-index l.sections) (bytes_of l.courses.keys) l.numbers.items
