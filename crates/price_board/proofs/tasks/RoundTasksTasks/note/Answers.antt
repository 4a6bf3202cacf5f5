use Rattle.std.proofs.Common.{◌∙◌, ◌<◌, arith, length, subst, sym}
use Rattle.std.specs.Arc.{arc_value}
use Rattle.std.specs.Prelude.{IfSome}
use Rattle.task_board.specs.Marks.{answers_in}
use Rattle.price_board.specs.Openings.{list_of, terms_of}
use Rattle.price_board.proofs.Tallying.{may_note, noted_there, unanswered_there}
use Rattle.price_board.proofs.tasks.RoundTasksTasks.note.Goals as goal

pub with_bundle-requires : goal.with_bundle-requires
with_bundle-requires c =
    let tasks = c.args.self.now in
    let terms = terms_of (arc_value tasks.crowd) (arc_value tasks.round) in
    let may =
    may_note terms tasks.tallies.items (answers_in c.args._marks.now) c.args.task c.in-Some.version c.index-tally.result.now c.in-Some.ask
    (subst (λ o. IfSome o (λ a. a.0 < length tasks.tallies.items)) c.in-Some.is c.asked_of.ensures.below) c.index-tally.ensures c.args.bundle
    (unanswered_there terms c.args._marks.now c.args.task c.args.bundle c.requires.each c.requires.task c.requires.unanswered)
    (list_of (arc_value tasks.round).list) c.requires.noted c.requires.task (sym c.in-Some.is ∙ c.asked_of.ensures.asked) in
    (may.0, omega (arith, may.1, tasks.students_are, tasks.few_students))

pub returns-in-Some-clause-noted : goal.returns-in-Some-clause-noted
returns-in-Some-clause-noted c =
    let tasks = c.args.self.now in
    let terms = terms_of (arc_value tasks.crowd) (arc_value tasks.round) in
    noted_there terms tasks.tallies.items (answers_in c.args._marks.now) c.args.task c.in-Some.version c.index-tally.result.now c.in-Some.ask
    (subst (λ o. IfSome o (λ a. a.0 < length tasks.tallies.items)) c.in-Some.is c.asked_of.ensures.below) c.index-tally.ensures c.args.bundle
    (unanswered_there terms c.args._marks.now c.args.task c.args.bundle c.requires.each c.requires.task c.requires.unanswered)
    (list_of (arc_value tasks.round).list) c.with_bundle.result c.requires.noted c.requires.task (sym c.in-Some.is ∙ c.asked_of.ensures.asked)
    c.with_bundle.ensures
