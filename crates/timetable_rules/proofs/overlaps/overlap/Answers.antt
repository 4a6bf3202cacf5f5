use Rattle.std.proofs.Common.{◌≡◌, false, sym}
use Rattle.timetable_rules.specs.Meetings.{meetings_of}
use Rattle.timetable_rules.specs.Overlap.{some_overlap}
use Rattle.timetable_rules.proofs.DayFacts.{on_other_days}
use Rattle.timetable_rules.proofs.Relations.{some_overlap-relation}
use Rattle.timetable_rules.proofs.overlaps.overlap.Goals as goal

pub returns-then-days-eq0-clause-test : goal.returns-then-days-eq0-clause-test
returns-then-days-eq0-clause-test c =
    sym (on_other_days c.days.result c.days-2.result c.if-days-eq0.true (meetings_of c.args.a.now) (meetings_of c.args.b.now) c.days.ensures c.days-2.ensures)

pub returns-then-days-eq0-clause-relation : goal.returns-then-days-eq0-clause-relation
returns-then-days-eq0-clause-relation c =
    let none : some_overlap (meetings_of c.args.a.now) (meetings_of c.args.b.now) ≡ false =
    on_other_days c.days.result c.days-2.result c.if-days-eq0.true (meetings_of c.args.a.now) (meetings_of c.args.b.now) c.days.ensures c.days-2.ensures in
    rw (← none) (some_overlap-relation _ _)

pub returns-clause-relation : goal.returns-clause-relation
returns-clause-relation c = rw (c.some_meet.ensures, c.as_slice.ensures.value, c.as_slice-2.ensures.value) (some_overlap-relation _ _)
