use Rattle.std.proofs.Common.{◌≡◌, true, sym, subst}
use Rattle.task_board.specs.declared.calls.Call.TheVariants.{Post}
use Rattle.task_board.specs.Seats.{BoardOf}
use Rattle.task_board.specs.Shared.{is_sound}
use Rattle.task_board.proofs.SeatTurns.{HasCalled, may_post, no_draw, has_posted, sound_post}
use Rattle.task_board.proofs.board.Board.post.Given.{Over}
use Rattle.task_board.proofs.board.Board.post.Goals.{After-call}
use Rattle.task_board.proofs.board.Board.post.Goals as goal

-- what the chronicle's call says, of the board as contracts see it
called : (g : Over) (c : After-call g)
    → HasCalled g.T.Tasks.rules c.args.self.now (Post c.args.task c.args.answer) c.call.result c.args.seat.now c.call.new.seat
called g c =
    let says = c.call.ensures in
    subst (λ (o : BoardOf _ _). HasCalled g.T.Tasks.rules o (Post c.args.task c.args.answer) c.call.result c.args.seat.now c.call.new.seat) c.self.view_is
    (record {
      seen = says.seen;
      legal = says.legal;
      own = says.own;
      all_own = says.all_own;
      others = says.others;
      left = says.left;
      same = says.same;
    })

pub call-requires-clause-left : goal.call-requires-clause-left
call-requires-clause-left g c = may_post g.T.Tasks.rules c.args.self.now c.args.seat.now c.requires.seat c.requires.post_left

pub call-requires-clause-sound : goal.call-requires-clause-sound
call-requires-clause-sound g c =
    subst (λ (o : BoardOf _ _). is_sound g.T.Tasks.rules o.base (Post c.args.task c.args.answer) ≡ true) (sym c.self.view_is)
    (sound_post g.T.Tasks.rules c.args.self.now.base c.args.task c.args.answer c.requires.task c.requires.answer)

pub unreachable-requires : goal.unreachable-requires
unreachable-requires g c =
    no_draw g.T.Tasks.rules c.args.self.now c.args.seat.now c.call.new.seat c.requires.seat c.args.task c.args.answer c.call.result c.in-Draw.field-0
    (called g (goal.at.unreachable-requires g c).After-call) c.in-Draw.is

pub returns : goal.returns
returns g c =
    has_posted g.T.Tasks.rules c.args.self.now c.args.seat.now c.call.new.seat c.requires.seat c.args.task c.args.answer c.in-Post.posted
    (subst (λ r. HasCalled g.T.Tasks.rules c.args.self.now (Post c.args.task c.args.answer) r c.args.seat.now c.call.new.seat) c.in-Post.is
    (called g (goal.at.returns g c).After-call))
    c.requires.post_left
