use Rattle.std.proofs.Common.{◌≤◌, ◌∙◌, ap, subst, length}
use Rattle.chronicle.specs.History.{IsLegal, state_after}
use Rattle.task_board.specs.Seats.{BoardOf}
use Rattle.task_board.specs.Shared.{is_sound, reply_to, progress_after}
use Rattle.task_board.proofs.Endings.{ended}
use Rattle.task_board.proofs.board.Board.close.Goals as goal

pub returns : goal.returns
returns g c =
    let rules = g.T.Tasks.rules in
    let says = c.close-state.ensures in
    let history = c.close-state.result.1 in
    ended rules g.met.T.Tasks.lasting c.args.self history c.args.seats.items
    (subst (λ (o : BoardOf _ _). 1 ≤ length o.allotments) c.self.view_is c.self.invariant) c.requires.back.all c.requires.back.finished
    (subst (λ (o : BoardOf _ _). IsLegal (is_sound rules) (progress_after rules) (reply_to rules) o.base o.opening history) c.self.view_is says.legal)
    says.seats says.own says.seen says.others c.close-state.result.0.terms c.close-state.result.0.marks
    (says.base ∙ ap (λ (o : BoardOf _ _). o.base) c.self.view_is)
    (says.last ∙ ap (λ (o : BoardOf _ _). state_after (progress_after rules) o.base o.opening history) c.self.view_is)
