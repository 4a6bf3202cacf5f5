-- What the marks of a board keep through draws and posts.
use Rattle.std.proofs.Common.{ℕ, zero, suc, ◌≡◌, ◌≢◌, ◌<◌, ◌≤◌, ◌+◌, ◌==◌, ◌∙◌, true, false, not, List, [], ◌∷◌, length, Some, None, refl, sym, ap, subst, arith, slice_set, replicate, cond, inl, inr}
use Rattle.std.specs.List.{AllByRecursion as Each}
use Rattle.std.specs.Prelude.{⊤}
use Rattle.std.proofs.lemmas.Bool.{and_cases, and_left, and_right, cases_Bool, eqb-false, not-false}
use Rattle.std.proofs.lemmas.List.{length-set, length-replicate}
use Rattle.std.proofs.lemmas.List.Sums.{sum_by-set}
use Rattle.chronicle.specs.declared.journal.StepOf.{StepOf}
use Rattle.chronicle.specs.History.{calls_by}
use Rattle.task_board.specs.declared.calls.Call.{Call}
use Rattle.task_board.specs.declared.calls.Reply.{Reply}
use Rattle.task_board.specs.declared.mark.Mark.{Mark}
use Rattle.task_board.specs.declared.mark.Mark.TheVariants.{Open, Held, Spent}
use Rattle.task_board.specs.Kept.{KeepsMarks}
use Rattle.task_board.specs.Marks.{mark_at, is_open, answer_in, answers_in}
use Rattle.task_board.specs.Rules.{Rules, IsLasting}
use Rattle.task_board.specs.Seats.{HistoryOf, undrawn}
use Rattle.task_board.specs.Steps.{is_over, is_left}
use Rattle.task_board.proofs.Marking.{closed_below, mark-set}
use Rattle.task_board.proofs.Stepping.{IsKeptBy, IsStep}

-- ---- how many tasks nobody drew

module _ {A : Type 0} where
  -- after a mark that is not open is put
  undrawn-set : (marks : List (Mark A)) (task : ℕ) (mark : Mark A) → task < length marks → is_open mark ≡ false
      → undrawn (slice_set marks task mark) + cond (is_open (mark_at marks task)) 1 0 ≡ undrawn marks
  undrawn-set marks task mark below closed =
      let none = ap (λ b. let n : ℕ = cond b 1 0 in n) closed in
      omega (arith, sum_by-set (λ (m : Mark A). cond (is_open m) 1 0) marks task mark Open below, none)

  pub undrawn-drawn : (marks : List (Mark A)) (task : ℕ) (mark : Mark A) → task < length marks → mark_at marks task ≡ Open → is_open mark ≡ false
      → undrawn (slice_set marks task mark) + 1 ≡ undrawn marks
  undrawn-drawn marks task mark below was closed = rw was at (undrawn-set marks task mark below closed)

  pub undrawn-posted : (marks : List (Mark A)) (task seat : ℕ) (mark : Mark A) → mark_at marks task ≡ Held seat → is_open mark ≡ false
      → undrawn (slice_set marks task mark) ≡ undrawn marks
  undrawn-posted marks task seat mark was closed =
      let kept : undrawn (slice_set marks task mark) + 0 ≡ undrawn marks =
      rw was at (undrawn-set marks task mark (closed_below marks task (ap is_open was)) closed) in
      omega arith

-- nothing is drawn or posted at first
pub open_at : {A : Type 0} (n task : ℕ) → mark_at {A = A} (replicate n Open) task ≡ Open
open_at zero task = refl
open_at (suc n) zero = refl
open_at (suc n) (suc task) = open_at n task

pub none_answered : {A : Type 0} (n : ℕ) → answers_in {A = A} (replicate n Open) ≡ replicate n None
none_answered zero = refl
none_answered (suc n) = ap (λ l. None ∷ l) (none_answered n)

module _ {B A : Type 0} (rules : Rules B A) (terms : B) where
  -- ---- the marks with what was drawn and posted

  -- a task that is not left, and the task of a step, are not left after it
  gone_after : (marks : List (Mark A)) (seat task other : ℕ) (mark : Mark A) → IsLasting rules → length marks ≡ rules.count terms
      → IsStep rules terms marks seat task mark → (other ≢ task → is_left rules terms marks other ≡ false)
      → is_left rules terms (slice_set marks task mark) other ≡ false
  gone_after marks seat task other mark lasting each step gone = elim (mark-set marks task other mark step.below) [
    | inl at ↦ and_left _ _ (ap is_open at.1 ∙ step.closed)
    | inr at ↦ elim (and_cases (is_open (mark_at marks other)) (not (is_over rules terms marks other)) (gone at.0)) [
      | inl closed ↦ and_left _ _ (ap is_open at.1 ∙ closed)
      | inr over ↦ and_right _ _ (ap not (step.over lasting each other (not-false _ over)))
    ]
  ]

  -- what is kept after a step, where a posted answer is right, and no other task before this one was left
  pub marks_kept : (marks : List (Mark A)) (seat task next later : ℕ) (mark : Mark A) → IsLasting rules → KeepsMarks rules terms marks next
      → IsStep rules terms marks seat task mark → ((answer : A) → answer_in mark ≡ Some answer → rules.is_right terms task answer ≡ true)
      → ((other : ℕ) → other < later → other ≢ task → is_left rules terms marks other ≡ false) → KeepsMarks rules terms (slice_set marks task mark) later
  marks_kept marks seat task next later mark lasting keeps step good passed = record {
    each = length-set marks task mark ∙ keeps.each;
    few = subst (λ n. n ≤ 4294967295) (sym (length-set marks task mark)) keeps.few;
    right = λ other answer is. elim (mark-set marks task other mark step.below) [
      | inl at ↦ subst (λ t. rules.is_right terms t answer ≡ true) (sym at.0) (good answer (sym (ap answer_in at.1) ∙ is))
      | inr at ↦ keeps.right other answer (sym (ap answer_in at.1) ∙ is)
    ];
    passed = λ other low. gone_after marks seat task other mark lasting keeps.each step (passed other low);
  }

  -- nobody drew a task
  pub keeps_open : (marks : List (Mark A)) → rules.count terms ≤ 4294967295 → marks ≡ replicate (rules.count terms) Open → KeepsMarks rules terms marks 0
  keeps_open marks few are =
      let each : length marks ≡ rules.count terms = ap length are ∙ length-replicate (rules.count terms) Open in
      record {
        each = each;
        few = subst (λ n. n ≤ 4294967295) (sym each) few;
        right =
            λ task answer is. let none : None ≡ Some answer = sym (ap answer_in (ap (λ m. mark_at m task) are ∙ open_at (rules.count terms) task)) ∙ is in cc;
        passed = λ task low. absurd (omega arith);
      }

  -- ---- what all steps keep

  pub keeps_count : IsKeptBy rules terms (λ _. ⊤) (λ marks. length marks ≡ rules.count terms)
  keeps_count marks seat task mark who step each = length-set marks task mark ∙ each

  pub keeps_undrawn : (most : ℕ) → IsKeptBy rules terms (λ _. ⊤) (λ marks. undrawn marks ≤ most)
  keeps_undrawn most marks seat task mark who step few = omega (arith, undrawn-set marks task mark step.below step.closed, few)

  -- a task that is not left
  pub record IsGone (task : ℕ) (marks : List (Mark A)) : Type 0 where
    pub each : length marks ≡ rules.count terms
    pub gone : is_left rules terms marks task ≡ false

  pub keeps_gone : IsLasting rules → (task : ℕ) → IsKeptBy rules terms (λ _. ⊤) (IsGone task)
  keeps_gone lasting task marks seat other mark who step have = record {
    each = length-set marks other mark ∙ have.each;
    gone = gone_after marks seat other task mark lasting have.each step (λ _. have.gone);
  }

  -- a task that was posted late is over
  pub record SpentAreOver (marks : List (Mark A)) : Type 0 where
    pub each : length marks ≡ rules.count terms
    pub over : (task seat : ℕ) → mark_at marks task ≡ Spent seat → is_over rules terms marks task ≡ true

  pub keeps_spent : IsLasting rules → IsKeptBy rules terms (λ _. ⊤) SpentAreOver
  keeps_spent lasting marks seat task mark who step have = record {
    each = length-set marks task mark ∙ have.each;
    over = λ other by is. step.over lasting have.each other (elim (mark-set marks task other mark step.below) [
      | inl at ↦ ap (is_over rules terms marks) at.0 ∙ step.spent by (sym at.1 ∙ is)
      | inr at ↦ have.over other by (sym at.1 ∙ is)
    ]);
  }

  -- who holds a task is not changed by the calls of others
  pub keeps_holder : (n task : ℕ) (H : Type 0)
      → IsKeptBy rules terms (λ seat. seat ≢ n) (λ marks. (H → mark_at marks task ≡ Held n) × (mark_at marks task ≡ Held n → H))
  keeps_holder n task H marks seat other mark who step have = elim (mark-set marks other task mark step.below) [
    | inl at ↦ (
      (λ h. absurd (who (step.was_held n (sym (ap (mark_at marks) at.0) ∙ have.0 h)))),
      (λ held. absurd (who (step.is_held n (sym at.1 ∙ held)))),
    )
    | inr at ↦ ((λ h. at.1 ∙ have.0 h), (λ held. have.1 (sym at.1 ∙ held)))
  ]

-- steps of anyone, and those of others
pub anyone : {A : Type 0} (history : HistoryOf A) → Each (λ (step : StepOf (Call A) Reply). ⊤) history
anyone [] = tt
anyone (step ∷ more) = (tt, anyone more)

pub others : {A : Type 0} (n : ℕ) (history : HistoryOf A) → calls_by n history ≡ [] → Each (λ (step : StepOf (Call A) Reply). step.seat ≢ n) history
others n [] none = tt
others n (step ∷ more) none = elim (cases_Bool (step.seat == n)) [
  | inl own ↦ let h : step ∷ calls_by n more ≡ [] = rw own at none in cc
  | inr other ↦ (eqb-false step.seat n other, others n more (rw other at none))
]
