use Rattle.std.proofs.Common.{rules, ◌<◌, All, [], ◌∷◌, take, length, sym, subst, arith}
use Rattle.std.proofs.lemmas.List.{take_more_set}
use Rattle.std.proofs.lemmas.List.Elements.{All-nil, All-cons, All-append}
use Rattle.timetable_rules.specs.Meeting.{IsMeeting}
use Rattle.timetable_rules.proofs.DayFacts.{on_one_more_day}
use Rattle.timetable_rules.proofs.meetings.Meetings.with.Goals as goal

pub invariant_of-result : goal.invariant_of-result
invariant_of-result c =
    let weekday : c.args.meeting.day < 7 = c.requires.meeting.weekday in
    let room : c.args.self.len < length c.args.self.places = search rules in
    record {
      few = search rules;
      each =
          subst (All IsMeeting) (sym (take_more_set c.args.self.places c.args.self.len c.args.meeting room))
          (All-append IsMeeting (take c.args.self.len c.args.self.places) (c.args.meeting ∷ []) c.args.self.each
          (All-cons IsMeeting c.args.meeting [] c.requires.meeting (All-nil IsMeeting)));
      on_days = on_one_more_day c.args.self.days c.args.self.places c.args.self.len c.args.meeting room (omega arith) c.args.self.on_days;
    }
