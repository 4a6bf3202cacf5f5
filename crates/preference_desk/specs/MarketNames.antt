-- The names of a market.
use Rattle.std.specs.Prelude.{List, map}
use Rattle.course_catalog.specs.Sections.{Section}
use Rattle.student_roll.specs.Students.{Student}
use Rattle.preference_desk.specs.DeskNames.{DeskNames}

-- the names that a desk knows which was prepared for this catalogue and this roll
abbrev pub market_names : List Section → List Student → DeskNames
market_names catalog roll =
    record {
      students = map (λ (student : Student). student.name) roll;
      sections = map (λ (section : Section). section.name) catalog;
    }
