use Rattle.std.proofs.Common.{◌≤◌, map}
use Rattle.timetable_rules.specs.Clash.{AreEarlierRows, clashes}
use Rattle.timetable_rules.specs.Meetings.{meetings_of}
use Rattle.timetable_rules.proofs.SectionRows.{AreToldOf, IsRowTo}
use Rattle.timetable_rules.proofs.clashes.ClashTable.build.Given as goal

abbrev pub invariant-loop-section : goal.invariant-loop-section
invariant-loop-section l = record {
  rows : AreEarlierRows (map meetings_of l.meetings) l.courses l.parts l.section l.rows.items;
  few : l.section ≤ 400;
}

abbrev pub invariant-loop-earlier : goal.invariant-loop-earlier
invariant-loop-earlier l = record {
  rows : AreToldOf (clashes (map meetings_of l.meetings) l.courses l.parts) l.rows.items l.section l.earlier;
  own : IsRowTo (clashes (map meetings_of l.meetings) l.courses l.parts l.section) l.row l.earlier;
}
