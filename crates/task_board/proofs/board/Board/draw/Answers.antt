use Rattle.std.proofs.Common.{subst}
use Rattle.task_board.specs.declared.calls.Call.TheVariants.{Draw}
use Rattle.task_board.specs.Seats.{BoardOf}
use Rattle.task_board.proofs.SeatTurns.{HasCalled, may_draw, no_post, has_drawn}
use Rattle.task_board.proofs.board.Board.draw.Given.{Over}
use Rattle.task_board.proofs.board.Board.draw.Goals.{After-call}
use Rattle.task_board.proofs.board.Board.draw.Goals as goal

-- what the chronicle's call says, of the board as contracts see it
called : (g : Over) (c : After-call g) → HasCalled g.T.Tasks.rules c.args.self.now Draw c.call.result c.args.seat.now c.call.new.seat
called g c =
    let says = c.call.ensures in
    subst (λ (o : BoardOf _ _). HasCalled g.T.Tasks.rules o Draw c.call.result c.args.seat.now c.call.new.seat) c.self.view_is
    (record {
      seen = says.seen;
      legal = says.legal;
      own = says.own;
      all_own = says.all_own;
      others = says.others;
      left = says.left;
      same = says.same;
    })

pub call-requires-clause-left : goal.call-requires-clause-left
call-requires-clause-left g c = may_draw g.T.Tasks.rules c.args.self.now c.args.seat.now c.requires.seat c.requires.not_done

pub unreachable-requires : goal.unreachable-requires
unreachable-requires g c =
    no_post g.T.Tasks.rules c.args.self.now c.args.seat.now c.call.new.seat c.requires.seat c.call.result c.in-Post.field-0
    (called g (goal.at.unreachable-requires g c).After-call) c.in-Post.is

pub returns : goal.returns
returns g c =
    has_drawn g.T.Tasks.rules c.args.self.now c.args.seat.now c.call.new.seat c.requires.seat c.in-Draw.task
    (subst (λ r. HasCalled g.T.Tasks.rules c.args.self.now Draw r c.args.seat.now c.call.new.seat) c.in-Draw.is
    (called g (goal.at.returns g c).After-call))
    c.requires.holds_nothing c.requires.not_done
