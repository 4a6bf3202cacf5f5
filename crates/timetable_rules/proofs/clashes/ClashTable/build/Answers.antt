use Rattle.std.proofs.Common.{Bool, ℕ, map, ◌≡◌, ◌∙◌, sym, arith, true, false}
use Rattle.timetable_rules.specs.Clash.{clashes}
use Rattle.timetable_rules.specs.Meetings.{meetings_of}
use Rattle.timetable_rules.proofs.Relations.{clashes_mutual}
use Rattle.timetable_rules.proofs.SectionRows.{none_yet, with_next, without_next, told_none, told_next, told_next_apart, next_row, clash_table}
use Rattle.timetable_rules.proofs.clashes.ClashTable.build.Goals as goal
use Rattle.timetable_rules.proofs.clashes.ClashTable.build.Goals.{then-do_clash, else-do_clash}

pub loop-earlier-init : goal.loop-earlier-init
loop-earlier-init c = record {
  rows = told_none (map meetings_of c.args.meetings.now) c.args.courses.now c.args.parts.now c.loop-section.rows.items c.loop-section.section c.loop-section.invariant.rows;
  own = rw c.empty-row.ensures (none_yet (clashes (map meetings_of c.args.meetings.now) c.args.courses.now c.args.parts.now c.loop-section.section));
}

pub loop-earlier-preserved : goal.loop-earlier-preserved
loop-earlier-preserved c =
    let test : ℕ → ℕ → Bool = clashes (map meetings_of c.args.meetings.now) c.args.courses.now c.args.parts.now in
    let section : ℕ = c.loop-section.section in
    let earlier : ℕ = c.loop-earlier.earlier in
    let below = c.loop-earlier-test.true in
    let other_way : test earlier section ≡ test section earlier = (clashes_mutual (map meetings_of c.args.meetings.now) c.args.courses.now c.args.parts.now earlier section).other_way in
    elim c.if-do_clash.branch [
      | then-do_clash w ↦
          let clash : test section earlier ≡ true = sym c.do_clash.ensures ∙ w.if-do_clash.true in
          rw (w.rows-is, w.row-is, w.with-row.ensures, w.with.ensures, w.index.ensures) (record {
            rows = told_next test c.loop-earlier.rows.items w.index.result.now section earlier below (other_way ∙ clash) c.loop-earlier.invariant.rows;
            own = λ s. with_next c.loop-earlier.row (test section) earlier s clash (c.loop-earlier.invariant.own s);
          })
      | else-do_clash w ↦
          let clear : test section earlier ≡ false = sym c.do_clash.ensures ∙ w.if-do_clash.false in
          rw (w.rows-is, w.row-is) (record {
            rows = told_next_apart test c.loop-earlier.rows.items section earlier below (other_way ∙ clear) c.loop-earlier.invariant.rows;
            own = λ s. without_next c.loop-earlier.row (test section) earlier s clear (c.loop-earlier.invariant.own s);
          })
    ]

pub loop-section-preserved : goal.loop-section-preserved
loop-section-preserved c =
    let test : ℕ → ℕ → Bool = clashes (map meetings_of c.args.meetings.now) c.args.courses.now c.args.parts.now in
    let end : c.loop-earlier.earlier ≡ c.loop-section.section = omega arith in
    record {
      rows = rw c.in_ok-push.ensures.items
          (next_row (map meetings_of c.args.meetings.now) c.args.courses.now c.args.parts.now c.loop-earlier.rows.items c.loop-earlier.row
          c.loop-section.section c.loop-earlier.earlier (omega arith) c.loop-earlier.invariant.rows (rw end at c.loop-earlier.invariant.own));
      few = omega arith;
    }

pub returns : goal.returns
returns c =
    clash_table c.loop-section.rows.items (map meetings_of c.args.meetings.now) c.args.courses.now c.args.parts.now c.loop-section.section
    (omega arith) (omega arith) c.loop-section.invariant.rows
