use Rattle.std.proofs.Common.{◌≡◌, ◌<◌, ◌+◌, ◌*◌, ◌∙◌, true, None, Option, arith, ap, sym, subst}
use Rattle.std.specs.Arc.{arc_value}
use Rattle.std.specs.Prelude.{IsSome, IfSome}
use Rattle.bundle_rules.specs.declared.bundle.Bundle.{Bundle}
use Rattle.bundle_rules.specs.Bundles.{sections_of}
use Rattle.task_board.specs.declared.data.AnswersData.{AnswersData}
use Rattle.task_board.specs.Marks.{answer_in, mark_at}
use Rattle.price_board.specs.declared.round.Ask.TheVariants.{Counts}
use Rattle.price_board.specs.declared.terms.Terms.{Terms}
use Rattle.price_board.specs.Asked.{is_taken}
use Rattle.price_board.specs.Closings.{AreSettledIn}
use Rattle.price_board.specs.Openings.{list_of}
use Rattle.price_board.specs.Settling.{ask_of}
use Rattle.price_board.specs.Terms.{count_in, version_count, student_count, demand_of}
use Rattle.price_board.proofs.Deciding.{counts_filled}
use Rattle.price_board.proofs.Numbering.{no_list, numbered, right_posted}
use Rattle.price_board.proofs.answers.Answers.bundle.Goals as goal

pub returns-clause-some : goal.returns-clause-some
returns-clause-some c =
    let terms = c.self.inside.answers.terms in
    let marks = c.self.inside.answers.marks in
    let none : terms.list ≡ None =
    ap (λ (t : Terms). t.list) (sym c.tasks.ensures.terms)
    ∙ no_list (list_of (arc_value c.tasks.result.now.round).list) (sym c.has_list.ensures ∙ c.if-has_list.false) in
    subst
    (λ (a : AnswersData Terms Bundle). a.terms.list ≡ None → c.args.version < version_count a.terms → c.args.student.0 < student_count a.terms
    → ask_of a.terms.asks c.args.version ≡ Counts → IsSome c.answer.result)
    c.self.view_is
    (λ every low within counts. subst (λ (o : Option Bundle). IsSome o)
    (sym
    (c.answer.ensures.posted
    ∙ ap (λ n. answer_in (mark_at marks n))
    (numbered terms c.from-2.result c.from-3.result c.self.inside.students c.args.version c.args.student.0 c.from-2.ensures c.from-3.ensures
    c.self.invariant.students_are)))
    (counts_filled terms marks (c.self.invariant.each ∙ ap (λ l. count_in l terms) none)
    (subst (λ l. AreSettledIn l terms marks) none c.self.invariant.settled) c.args.version c.args.student.0 low within counts))

pub returns-clause-right : goal.returns-clause-right
returns-clause-right c =
    let terms = c.self.inside.answers.terms in
    let none : terms.list ≡ None =
    ap (λ (t : Terms). t.list) (sym c.tasks.ensures.terms)
    ∙ no_list (list_of (arc_value c.tasks.result.now.round).list) (sym c.has_list.ensures ∙ c.if-has_list.false) in
    let number = c.from-2.result * c.self.inside.students + c.from-3.result in
    let within : c.args.student.0 < student_count terms = omega (arith, c.if-from-self.false, c.from.ensures, c.self.invariant.students_are) in
    subst (λ (a : AnswersData Terms Bundle). IfSome c.answer.result (λ bundle. sections_of bundle ≡ demand_of a.terms c.args.version c.args.student.0))
    c.self.view_is
    (right_posted terms c.args.version c.args.student.0 number c.answer.result
    (numbered terms c.from-2.result c.from-3.result c.self.inside.students c.args.version c.args.student.0 c.from-2.ensures c.from-3.ensures
    c.self.invariant.students_are)
    within (subst (λ l. IfSome c.answer.result (λ b. is_taken l terms number b ≡ true)) none c.answer.ensures.right))
