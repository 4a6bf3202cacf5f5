use Rattle.std.proofs.Common.{ℕ, ◌≡◌, ◌<◌, ◌≤◌, ◌∙◌, true, false, None, Some, length, ap, sym, subst, arith, slice_set}
use Rattle.task_board.specs.declared.data.StateData.{StateData}
use Rattle.task_board.specs.declared.mark.Mark.TheVariants.{Held}
use Rattle.task_board.specs.Boards.{with_marks}
use Rattle.task_board.specs.Marks.{answer_in}
use Rattle.task_board.specs.Rules.{Rules}
use Rattle.task_board.specs.Steps.{first_left, is_left, marks_drawn, with_holder}
use Rattle.task_board.proofs.Keeping.{marks_kept}
use Rattle.task_board.proofs.Marking.{answers-kept}
use Rattle.task_board.proofs.Stepping.{IsNext, draws, left_open, next_left, nothing_left}
use Rattle.task_board.proofs.state.BoardState.draw.Goals as goal

-- a board as its fields have it, and as contracts saw it, of which nothing before the next task is left
module _ {B A : Type 0} (rules : Rules B A) (board was : StateData B A) (same : board ≡ was) (next : ℕ)
    (passed : (task : ℕ) → task < next → is_left rules was.terms was.marks task ≡ false) where
  passed_here : (task : ℕ) → task < next → is_left rules board.terms board.marks task ≡ false
  passed_here = subst (λ (b : StateData B A). (task : ℕ) → task < next → is_left rules b.terms b.marks task ≡ false) (sym same) passed

  -- a draw that finds no task
  none_drawn : (worker : ℕ) → length board.marks ≤ next
      → (None ≡ first_left rules was.terms was.marks) × (board ≡ with_marks was (marks_drawn rules was.terms was.marks worker))
  none_drawn worker high =
      let none = nothing_left rules was.terms was.marks next passed (subst (λ (b : StateData B A). length b.marks ≤ next) same high) in
      (sym none, same ∙ ap (λ found. with_marks was (with_holder worker found was.marks)) (sym none))

  -- a draw that finds one
  module _ (below : next < length board.marks) (stops : next < length was.marks → is_left rules was.terms was.marks next ≡ true) where
    next_here : IsNext rules board.terms board.marks next
    next_here = record {
      below = below;
      left = subst (λ (b : StateData B A). next < length b.marks → is_left rules b.terms b.marks next ≡ true) (sym same) stops below;
    }

    task_drawn : (worker : ℕ) → (Some next ≡ first_left rules was.terms was.marks)
        × (with_marks board (slice_set board.marks next (Held worker)) ≡ with_marks was (marks_drawn rules was.terms was.marks worker))
    task_drawn worker =
        let low = subst (λ (b : StateData B A). next < length b.marks) same below in
        let found = next_left rules was.terms was.marks next passed low (stops low) in (
          sym found,
          ap (λ (b : StateData B A). with_marks b (slice_set b.marks next (Held worker))) same
              ∙ ap (λ task. with_marks was (with_holder worker task was.marks)) (sym found),
        )

pub invariant_of-self : goal.invariant_of-self
invariant_of-self g c = (
  record {
    each = c.self.invariant.0.each;
    few = c.self.invariant.0.few;
    right = c.self.invariant.0.right;
    passed = passed_here g.T.Tasks.rules _ _ c.self.view_is c.next_left-next.result c.next_left-next.ensures.passed;
  },
  c.self.invariant.1,
)

pub returns-then-next-len : goal.returns-then-next-len
returns-then-next-len g c =
    let both =
    none_drawn g.T.Tasks.rules _ _ c.self.view_is c.next_left-next.result c.next_left-next.ensures.passed c.args.worker
    (omega (arith, c.self.inside.marks.ok.0, c.if-next-len.true)) in
    record { answer = both.0; board = both.1 }

pub invariant_of-self-2 : goal.invariant_of-self-2
invariant_of-self-2 g c =
    let marks = c.self.inside.marks.items in
    let terms = g.T.Tasks.terms c.self.inside.tasks in
    let next = c.next_left-next.result in
    let here : IsNext g.T.Tasks.rules terms marks next =
    next_here g.T.Tasks.rules _ _ c.self.view_is next c.next_left-next.ensures.passed (omega (arith, c.self.inside.marks.ok.0, c.if-next-len.false))
    c.next_left-next.ensures.stops in (
      marks_kept g.T.Tasks.rules terms marks c.args.worker next c.self.inside.next _ (Held c.args.worker) g.met.T.Tasks.lasting c.self.invariant.0
          (draws g.T.Tasks.rules terms marks c.args.worker next here) (λ answer is. cc)
          (λ task low apart. passed_here g.T.Tasks.rules _ _ c.self.view_is next c.next_left-next.ensures.passed task (omega (arith, low, apart))),
      subst (λ answers. g.T.Tasks.noted c.self.inside.tasks answers)
          (sym (answers-kept marks next (Held c.args.worker) here.below (sym (ap answer_in (left_open g.T.Tasks.rules terms marks next here.left)))))
          c.self.invariant.1,
    )

pub returns : goal.returns
returns g c =
    let both =
    task_drawn g.T.Tasks.rules _ _ c.self.view_is c.next_left-next.result c.next_left-next.ensures.passed
    (omega (arith, c.self.inside.marks.ok.0, c.if-next-len.false)) c.next_left-next.ensures.stops c.args.worker in
    record { answer = both.0; board = both.1 }
