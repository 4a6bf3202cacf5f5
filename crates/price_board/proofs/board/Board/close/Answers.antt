use Rattle.std.proofs.Common.{ℕ, ◌≡◌, ◌<◌, ◌∙◌, None, length, ap, sym, subst}
use Rattle.std.specs.Prelude.{IsSome}
use Rattle.task_board.specs.Fates.{IsTaken, IsWorked}
use Rattle.task_board.specs.Kept.{AreSettled as AreTasksSettled}
use Rattle.price_board.specs.declared.round.Ask.TheVariants.{Counts}
use Rattle.price_board.specs.declared.terms.Terms.{Terms}
use Rattle.price_board.specs.Asked.{round_rules}
use Rattle.price_board.specs.Closings.{AreSettledIn}
use Rattle.price_board.specs.Rows.{number_of}
use Rattle.price_board.specs.Seats.{RoundBoard}
use Rattle.price_board.specs.Settling.{ask_of}
use Rattle.price_board.specs.Terms.{count_in, student_count, task_count, version_count}
use Rattle.price_board.proofs.Deciding.{counts_filled, listed_filled, settled_in}
use Rattle.price_board.proofs.board.Board.close.Goals as goal

pub invariant_of-result : goal.invariant_of-result
invariant_of-result c =
    let end = c.close-answers.result in
    let each : length end.marks ≡ task_count end.terms = c.close-answers.ensures.each ∙ ap task_count (sym c.close-answers.ensures.terms) in
    record {
      each = each;
      settled = settled_in end.terms.list end.terms end.marks each c.close-answers.ensures.settled;
      students_are = c.self.invariant.students_are ∙ ap student_count (sym c.close-answers.ensures.terms);
      few_students = c.self.invariant.few_students;
    }

pub returns-clause-settled : goal.returns-clause-settled
returns-clause-settled c =
    let end = c.close-answers.result in
    settled_in end.terms.list end.terms end.marks (c.close-answers.ensures.each ∙ ap task_count (sym c.close-answers.ensures.terms))
    c.close-answers.ensures.settled

pub returns-clause-counts : goal.returns-clause-counts
returns-clause-counts c =
    let end = c.close-answers.result in
    let base = c.self.inside.board.base in
    let settled =
    settled_in base.list base end.marks c.close-answers.ensures.each
    (subst (λ (t : Terms). AreTasksSettled round_rules t end.marks) c.close-answers.ensures.terms c.close-answers.ensures.settled) in
    subst
    (λ (b : RoundBoard). b.base.list ≡ None → (version student : ℕ) → version < version_count b.base → student < student_count b.base
    → ask_of b.base.asks version ≡ Counts → IsWorked round_rules IsTaken b.base end.history (number_of b.base version student))
    c.self.view_is
    (λ none v s low within counts. c.close-answers.ensures.taken (number_of base v s)
    (counts_filled base end.marks (c.close-answers.ensures.each ∙ ap (λ l. count_in l base) none)
    (subst (λ l. AreSettledIn l base end.marks) none settled) v s low within counts))

pub returns-clause-listed : goal.returns-clause-listed
returns-clause-listed c =
    let end = c.close-answers.result in
    let base = c.self.inside.board.base in
    let settled =
    settled_in base.list base end.marks c.close-answers.ensures.each
    (subst (λ (t : Terms). AreTasksSettled round_rules t end.marks) c.close-answers.ensures.terms c.close-answers.ensures.settled) in
    subst
    (λ (b : RoundBoard). IsSome b.base.list → (number : ℕ) → number < task_count b.base
    → IsWorked round_rules IsTaken b.base end.history number)
    c.self.view_is
    (λ some n low. c.close-answers.ensures.taken n (listed_filled base.list base end.marks some settled n low))
