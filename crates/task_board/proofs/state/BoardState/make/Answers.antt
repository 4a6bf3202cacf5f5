use Rattle.std.proofs.Common.{◌≡◌, ◌≤◌, ◌∙◌, ap, sym, subst, arith, replicate}
use Rattle.task_board.specs.declared.mark.Mark.TheVariants.{Open}
use Rattle.task_board.specs.Marks.{answers_in}
use Rattle.task_board.proofs.Keeping.{keeps_open, none_answered}
use Rattle.task_board.proofs.state.BoardState.make.Goals as goal

pub invariant_of-result : goal.invariant_of-result
invariant_of-result g c =
    let terms = g.T.Tasks.terms c.args.tasks in
    let opened : c.in_ok-marks.marks.items ≡ replicate (g.T.Tasks.rules.count terms) Open =
    c.in_ok-marks.ensures ∙ ap (λ n. replicate n Open) c.count-count.ensures in
    let few : c.count-count.result ≤ 4294967295 = omega (arith, c.count-count.type_inv) in (
      keeps_open g.T.Tasks.rules terms c.in_ok-marks.marks.items (subst (λ n. n ≤ 4294967295) c.count-count.ensures few) opened,
      subst (λ answers. g.T.Tasks.noted c.args.tasks answers) (sym (ap answers_in opened ∙ none_answered (g.T.Tasks.rules.count terms))) c.requires.fresh,
    )
