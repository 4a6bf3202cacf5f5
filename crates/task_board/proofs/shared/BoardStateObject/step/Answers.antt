use Rattle.std.proofs.Common.{◌≡◌, ◌<◌, ◌∙◌, true, ap, arith, sym, subst}
use Rattle.task_board.specs.declared.calls.Reply.TheVariants.{Draw as Drew, Post as Answered}
use Rattle.task_board.specs.declared.data.StateData.{StateData}
use Rattle.task_board.specs.Shared.{is_sound, progress, progress_after, reply_to}
use Rattle.task_board.specs.Steps.{first_left, marks_drawn, marks_posted, post_answer}
use Rattle.task_board.proofs.SeatTurns.{sound_parts}
use Rattle.task_board.proofs.shared.BoardStateObject.step.Goals as goal

pub post-requires : goal.post-requires
post-requires g c =
    let rules = g.T.Tasks.rules in
    let both =
    sound_parts rules c.args.self.now.terms c.in-Post.task c.in-Post.answer
    (subst (λ r. is_sound rules c.args.self.now.terms r ≡ true) c.in-Post.is c.requires.sound) in
    let same = ap (λ (b : StateData _ _). b.terms) c.use_room.ensures in
    record {
      task = subst (λ t. c.in-Post.task < rules.count t) (sym same) both.0;
      answer = subst (λ t. rules.is_right t c.in-Post.task c.in-Post.answer ≡ true) (sym same) both.1;
    }

pub returns-in-Draw : goal.returns-in-Draw
returns-in-Draw g c =
    let rules = g.T.Tasks.rules in
    let was = c.args.self.now in
    let used = c.use_room.ensures in
    let drew = c.draw.ensures.board in
    record {
      base = ap (λ (b : StateData _ _). b.terms) drew ∙ ap (λ (b : StateData _ _). b.terms) used;
      state =
          ap (λ (b : StateData _ _). progress b.marks) drew ∙ ap (λ (b : StateData _ _). progress (marks_drawn rules b.terms b.marks c.args.seat)) used
          ∙ ap (progress_after rules was.terms (progress was.marks) c.args.seat) (sym c.in-Draw.is);
      reply =
          ap Drew c.draw.ensures.answer ∙ ap (λ (b : StateData _ _). Drew (first_left rules b.terms b.marks)) used
          ∙ ap (reply_to rules was.terms (progress was.marks) c.args.seat) (sym c.in-Draw.is);
      room = omega (arith, c.requires.room, ap (λ (b : StateData _ _). b.room) drew, ap (λ (b : StateData _ _). b.room) used);
    }

pub returns-in-Post : goal.returns-in-Post
returns-in-Post g c =
    let rules = g.T.Tasks.rules in
    let was = c.args.self.now in
    let used = c.use_room.ensures in
    record {
      base = c.post.ensures.terms ∙ ap (λ (b : StateData _ _). b.terms) used;
      state =
          ap progress c.post.ensures.marks
          ∙ ap (λ (b : StateData _ _). progress (marks_posted rules b.terms b.marks c.args.seat c.in-Post.task c.in-Post.answer)) used
          ∙ ap (progress_after rules was.terms (progress was.marks) c.args.seat) (sym c.in-Post.is);
      reply =
          ap Answered c.post.ensures.answer ∙ ap (λ (b : StateData _ _). Answered (post_answer rules b.terms b.marks c.args.seat c.in-Post.task)) used
          ∙ ap (reply_to rules was.terms (progress was.marks) c.args.seat) (sym c.in-Post.is);
      room = omega (arith, c.requires.room, c.post.ensures.room, ap (λ (b : StateData _ _). b.room) used);
    }
