-- What the tables of a made market say. Its sections and students are numbered from 1.
use Rattle.std.specs.Prelude.{ℕ, ◌+◌, ◌/◌, ◌%◌, [], ◌∷◌, map}
use Rattle.course_catalog.specs.Catalog.{CatalogData}
use Rattle.course_catalog.specs.Sections.{Section}
use Rattle.market_maker.specs.Catalogs.{course_name, section_name, start_of}
use Rattle.market_maker.specs.Lines.{numbers_to}
use Rattle.market_maker.specs.Rolls.{student_name}
use Rattle.student_roll.specs.Students.{RollData, Student}
use Rattle.timetable_rules.specs.declared.meeting.Meeting.{Meeting}
use Rattle.timetable_rules.specs.Parts.{whole_term}

-- the one meeting of section j, on a day from Monday to Friday: it lasts 80 minutes
abbrev pub made_meeting : ℕ → Meeting
made_meeting j = record { day = j % 5; start = start_of j; end = start_of j + 80 }

-- section j, where there are so many students
abbrev pub made_section : ℕ → ℕ → Section
made_section students j = record {
  name = section_name j;
  course = course_name j;
  seats = 1 + students / 4;
  credits = 1 + j % 3;
  meetings = made_meeting j ∷ [];
  parts = whole_term;
}

-- the catalogue of so many sections, where there are so many students
abbrev pub made_catalog : ℕ → ℕ → CatalogData
made_catalog students sections =
    record { version = 1; sections = map (made_section students) (numbers_to sections) }

-- student i
abbrev pub made_student : ℕ → Student
made_student i =
    record { name = student_name i; base = 100000; credits = 12; courses = 4; carry = 0 }

-- the roll of so many students
abbrev pub made_roll : ℕ → RollData
made_roll students = record { version = 1; students = map made_student (numbers_to students) }
