use Rattle.std.proofs.Common.{◌≡◌, ◌∙◌, None, ap, sym, subst}
use Rattle.std.specs.Arc.{arc_value}
use Rattle.bundle_rules.specs.declared.bundle.Bundle.{Bundle}
use Rattle.task_board.specs.declared.data.AnswersData.{AnswersData}
use Rattle.task_board.specs.Kept.{AreRight}
use Rattle.task_board.specs.Marks.{answers_in}
use Rattle.price_board.specs.declared.terms.Terms.{Terms}
use Rattle.price_board.specs.Asked.{round_rules, rules_in}
use Rattle.price_board.specs.Closings.{AreSettled, AreSettledIn, exceeds_in, exceeds_of}
use Rattle.price_board.specs.Openings.{list_of, terms_of}
use Rattle.price_board.specs.Tallies.{AreNoted}
use Rattle.price_board.specs.Terms.{count_in, task_count}
use Rattle.price_board.proofs.Deciding.{exceeds_right}
use Rattle.price_board.proofs.Numbering.{no_list}
use Rattle.price_board.proofs.answers.Answers.exceeds.Goals as goal

pub returns : goal.returns
returns c =
    let tasks = c.tasks-tasks.result.now in
    let terms : Terms = terms_of (arc_value tasks.crowd) (arc_value tasks.round) in
    let marks = c.self.inside.answers.marks in
    let is : terms ≡ c.self.inside.answers.terms = c.tasks-tasks.ensures.terms in
    let none : terms.list ≡ None = no_list (list_of (arc_value tasks.round).list) (sym c.has_list.ensures ∙ c.if-has_list.false) in
    let here : c.args.self.now.terms.list ≡ None =
    ap (λ (a : AnswersData Terms Bundle). a.terms.list) (sym c.self.view_is) ∙ ap (λ (t : Terms). t.list) (sym is) ∙ none in
    exceeds_right terms marks (c.self.invariant.each ∙ ap task_count (sym is) ∙ ap (λ l. count_in l terms) none)
    (subst (λ l. AreRight (rules_in l) terms marks) none (subst (λ (t : Terms). AreRight round_rules t marks) (sym is) c.tasks-tasks.ensures.right))
    (subst (λ l. AreSettledIn l terms marks) none (subst (λ (t : Terms). AreSettled t marks) (sym is) c.self.invariant.settled)) tasks.tallies.items
    c.from.result c.exceeds.result (subst (λ l. AreNoted l terms tasks.tallies.items (answers_in marks)) none c.tasks-tasks.ensures.noted) (tasks.asked none)
    c.exceeds.ensures.none c.exceeds.ensures.some
    ∙ ap (λ (t : Terms). exceeds_of t c.from.result) is ∙ ap (λ (a : AnswersData Terms Bundle). exceeds_of a.terms c.from.result) c.self.view_is
    ∙ ap (exceeds_of c.args.self.now.terms) c.from.ensures
    ∙ ap (λ l. exceeds_in l c.args.self.now.terms c.args.version) (sym here)
