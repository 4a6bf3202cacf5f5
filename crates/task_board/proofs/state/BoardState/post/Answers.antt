use Rattle.std.proofs.Common.{◌≡◌, true, Some, slice_set, ap, sym, subst}
use Rattle.task_board.specs.declared.data.StateData.{StateData}
use Rattle.task_board.specs.declared.mark.Mark.TheVariants.{Held, Filled, Spent}
use Rattle.task_board.specs.Kept.{KeepsMarks}
use Rattle.task_board.specs.Marks.{answer_in, answers_in, is_held_by, is_open, mark_at}
use Rattle.task_board.proofs.Keeping.{marks_kept}
use Rattle.task_board.proofs.Marking.{answers-kept, answers-set, closed_below, held_is}
use Rattle.task_board.proofs.Stepping.{fills, spends}
use Rattle.task_board.proofs.state.BoardState.post.Given.{Over}
use Rattle.task_board.proofs.state.BoardState.post.Goals.{Else-not-is_held_by}
use Rattle.task_board.proofs.state.BoardState.post.Goals as goal

-- the worker holds the task
held : (g : Over) (c : Else-not-is_held_by g) → mark_at c.self.inside.marks.items c.args.task ≡ Held c.args.worker
held g c =
    held_is c.args.worker (mark_at c.self.inside.marks.items c.args.task)
    (subst (λ (b : StateData _ _). is_held_by c.args.worker (mark_at b.marks c.args.task) ≡ true) (sym c.self.view_is) (sym c.if-not-is_held_by.ensures))

pub invariant_of-self : goal.invariant_of-self
invariant_of-self g c =
    let marks = c.self.inside.marks.items in
    let terms = g.T.Tasks.terms c.self.inside.tasks in
    let there = held g (goal.at.invariant_of-self g c).Else-not-is_held_by in
    let over =
    subst (λ lent. g.T.Tasks.rules.is_over terms (answers_in lent) c.args.task ≡ true) c.deref.ensures.value (sym c.if-is_over.ensures) in (
      marks_kept g.T.Tasks.rules terms marks c.args.worker c.args.task c.self.inside.next _ (Spent c.args.worker) g.met.T.Tasks.lasting c.self.invariant.0
          (spends g.T.Tasks.rules terms marks c.args.worker c.args.task there over) (λ answer is. cc) (λ other low _. c.self.invariant.0.passed other low),
      subst (λ answers. g.T.Tasks.noted c.self.inside.tasks answers)
          (sym (answers-kept marks c.args.task (Spent c.args.worker) (closed_below marks c.args.task (ap is_open there)) (sym (ap answer_in there))))
          c.self.invariant.1,
    )

pub invariant_of-self-2 : goal.invariant_of-self-2
invariant_of-self-2 g c =
    let marks = c.self.inside.marks.items in
    let terms = g.T.Tasks.terms c.self.inside.tasks in
    let filled = Filled c.args.worker c.args.answer in
    let there = held g (goal.at.invariant_of-self-2 g c).Else-not-is_held_by in
    let good : g.T.Tasks.rules.is_right terms c.args.task c.args.answer ≡ true =
    subst (λ (b : StateData _ _). g.T.Tasks.rules.is_right b.terms c.args.task c.args.answer ≡ true) (sym c.self.view_is) c.requires.answer in (
      subst (λ t. KeepsMarks g.T.Tasks.rules t (slice_set marks c.args.task filled) c.self.inside.next) (sym c.note.ensures.terms)
          (marks_kept g.T.Tasks.rules terms marks c.args.worker c.args.task c.self.inside.next _ filled g.met.T.Tasks.lasting c.self.invariant.0
          (fills g.T.Tasks.rules terms marks c.args.worker c.args.task there c.args.answer)
          (λ answer is. let same : c.args.answer ≡ answer = cc in subst (λ a. g.T.Tasks.rules.is_right terms c.args.task a ≡ true) same good)
          (λ other low _. c.self.invariant.0.passed other low)),
      subst (λ answers. g.T.Tasks.noted c.note.new.self answers) (sym (answers-set marks c.args.task filled))
          (subst
          (λ lent. g.T.Tasks.noted c.note.new.self (slice_set (answers_in lent) c.args.task (Some c.args.answer)))
          c.deref-2.ensures.value c.note.ensures.noted),
    )
