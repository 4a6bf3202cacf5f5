use Rattle.std.proofs.Common.{◌≤◌, ◌<◌, ◌^◌, ◌∙◌, ap, sym, subst}
use Rattle.std.specs.Arc.{arc_value}
use Rattle.task_board.specs.Openings.{no_answers}
use Rattle.price_board.specs.declared.round.Round.{Round}
use Rattle.price_board.specs.declared.terms.Terms.{Terms}
use Rattle.price_board.specs.Asked.{round_rules}
use Rattle.price_board.specs.Openings.{terms_of, IsRound}
use Rattle.price_board.specs.Tallies.{AreNoted}
use Rattle.price_board.specs.Terms.{student_count, task_count}
use Rattle.price_board.proofs.board.Board.start.Goals as goal

pub start-requires-clause-fresh : goal.start-requires-clause-fresh
start-requires-clause-fresh c =
    subst (λ (t : Terms). AreNoted t.list t c.in_ok-tasks.tasks.tallies.items (no_answers round_rules t)) (sym c.in_ok-tasks.ensures.terms)
    c.in_ok-tasks.ensures.fresh

pub invariant_of-result : goal.invariant_of-result
invariant_of-result c =
    let terms = terms_of (arc_value c.args.crowd) (arc_value c.args.round) in
    let is =
    c.in_ok-board.ensures.terms ∙ c.in_ok-tasks.ensures.terms ∙ ap (λ (w : Round). terms_of (arc_value c.args.crowd) w) c.in_ok-try_clone.ensures in
    record {
      is_round = subst IsRound (sym is) c.requires.round;
      list = ap (λ (t : Terms). t.list) is;
      students_are = c.students-students.ensures ∙ c.in_ok-tasks.tasks.students_are ∙ ap student_count (sym c.in_ok-board.ensures.terms);
      few_students = subst (λ n. n ≤ 2000) (sym c.students-students.ensures) c.in_ok-tasks.tasks.few_students;
    }

pub returns-clause-few : goal.returns-clause-few
returns-clause-few c =
    subst (λ (t : Terms). task_count t < 2 ^ 32) (sym (c.in_ok-board.ensures.terms ∙ c.in_ok-tasks.ensures.terms)) c.in_ok-tasks.ensures.few
