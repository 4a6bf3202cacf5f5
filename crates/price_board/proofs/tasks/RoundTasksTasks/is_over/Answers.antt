use Rattle.std.proofs.Common.{◌<◌, ◌∙◌, length, subst, sym}
use Rattle.std.specs.Arc.{arc_value}
use Rattle.std.specs.Prelude.{IfSome}
use Rattle.task_board.specs.Marks.{answers_in}
use Rattle.price_board.specs.Openings.{list_of, terms_of}
use Rattle.price_board.proofs.Tallying.{listed_left, over_found}
use Rattle.price_board.proofs.tasks.RoundTasksTasks.is_over.Goals as goal

pub returns-in-Some : goal.returns-in-Some
returns-in-Some c =
    let tasks = c.args.self.now in
    over_found (terms_of (arc_value tasks.crowd) (arc_value tasks.round)) tasks.tallies.items (answers_in c.args._marks.now) c.args.task c.in-Some.version
    c.index.result.now c.in-Some.ask
    (subst (λ o. IfSome o (λ a. a.0 < length tasks.tallies.items)) c.in-Some.is c.asked_of.ensures.below) c.index.ensures
    (list_of (arc_value tasks.round).list) c.settles.result c.requires.noted (sym c.in-Some.is ∙ c.asked_of.ensures.asked) c.settles.ensures

pub returns-in-None : goal.returns-in-None
returns-in-None c =
    let tasks = c.args.self.now in
    (listed_left (list_of (arc_value tasks.round).list) (terms_of (arc_value tasks.crowd) (arc_value tasks.round)) (answers_in c.args._marks.now) c.args.task
    (sym c.in-None.is ∙ c.asked_of.ensures.asked)).0
