-- The steps of a board by their cases, and how facts are kept through all steps.
use Rattle.std.proofs.Common.{ℕ, zero, suc, ◌≡◌, ◌<◌, ◌≤◌, ◌+◌, ◌∙◌, Bool, true, false, not, List, [], ◌∷◌, length, Some, None, Option, refl, sym, ap, subst, arith, slice_set, inl, inr}
use Rattle.std.specs.List.{AllByRecursion as Each}
use Rattle.std.proofs.lemmas.Bool.{and_parts, cases_Bool, cases_eq, not-false}
use Rattle.std.proofs.lemmas.List.{length-map}
use Rattle.chronicle.specs.declared.journal.StepOf.{StepOf}
use Rattle.chronicle.specs.History.{state_after}
use Rattle.task_board.specs.declared.calls.Call.{Call}
use Rattle.task_board.specs.declared.calls.Call.TheVariants.{Draw, Post}
use Rattle.task_board.specs.declared.calls.Posted.{Posted}
use Rattle.task_board.specs.declared.calls.Posted.TheVariants.{NotYours, Late, Taken}
use Rattle.task_board.specs.declared.calls.Reply.{Reply}
use Rattle.task_board.specs.declared.data.Progress.{Progress}
use Rattle.task_board.specs.declared.mark.Mark.{Mark}
use Rattle.task_board.specs.declared.mark.Mark.TheVariants.{Open, Held, Filled, Spent}
use Rattle.task_board.specs.Marks.{mark_at, is_open, is_held_by, answer_in, answers_in}
use Rattle.task_board.specs.Rules.{Rules, IsLasting}
use Rattle.task_board.specs.Seats.{HistoryOf}
use Rattle.task_board.specs.Shared.{progress_after}
use Rattle.task_board.specs.Steps.{first_from, is_over, is_left, first_left, with_holder, marks_drawn, post_answer, marks_posted}
use Rattle.task_board.proofs.Marking.{answer-at, answers-kept, answers-set, closed_below, held_is, open_is}

-- ---- the first number that passes a test

-- it is among the numbers, and passes
first_passes : (test : ℕ → Bool) (from more found : ℕ) → first_from test from more ≡ Some found → (found < from + more) × (test found ≡ true)
first_passes test from zero found is = let h : None ≡ Some found = is in cc
first_passes test from (suc more) found is = elim (cases_Bool (test from)) [
  | inl here ↦
      let one : Some from ≡ Some found = rw here at is in
      let e : from ≡ found = cc in
      subst (λ n. (n < from + suc more) × (test n ≡ true)) e (omega arith, here)
  | inr later ↦ let rest = first_passes test (from + 1) more found (rw later at is) in (omega (arith, rest.0), rest.1)
]

-- where there is none, none passes
pub none_is : (test : ℕ → Bool) (from more : ℕ) → first_from test from more ≡ None → (k : ℕ) → from ≤ k → k < from + more → test k ≡ false
none_is test from zero is k low high = absurd (omega arith)
none_is test from (suc more) is k low high = elim (cases_Bool (test from)) [
  | inl here ↦ let h : Some from ≡ None = rw here at is in cc
  | inr later ↦ elim (cases_eq k from) [
    | inl same ↦ ap test same ∙ later
    | inr apart ↦ none_is test (from + 1) more (rw later at is) k (omega arith) (omega arith)
  ]
]

-- the first one where it is known
is_first : (test : ℕ → Bool) (from more found : ℕ) → from ≤ found → found < from + more → test found ≡ true → ((k : ℕ) → k < found → test k ≡ false)
    → first_from test from more ≡ Some found
is_first test from zero found low high passes before = absurd (omega arith)
is_first test from (suc more) found low high passes before = elim (cases_eq found from) [
  | inl same ↦ let here : test from ≡ true = ap test (sym same) ∙ passes in rw here (ap Some (sym same))
  | inr apart ↦
      let later : test from ≡ false = before from (omega arith) in
      rw later (is_first test (from + 1) more found (omega arith) (omega arith) passes before)
]

is_none : (test : ℕ → Bool) (from more : ℕ) → ((k : ℕ) → k < from + more → test k ≡ false) → first_from test from more ≡ None
is_none test from zero fails = refl
is_none test from (suc more) fails =
    let here : test from ≡ false = fails from (omega arith) in
    rw here (is_none test (from + 1) more (λ k high. fails k (let h : k < from + 1 + more = high in omega arith)))

-- ---- a step by its cases

module _ {B A : Type 0} (rules : Rules B A) (terms : B) where
  -- a task that is left
  pub left_open : (marks : List (Mark A)) (task : ℕ) → is_left rules terms marks task ≡ true → mark_at marks task ≡ Open
  left_open marks task left = open_is (mark_at marks task) (and_parts (is_open (mark_at marks task)) (not (is_over rules terms marks task)) left).0

  pub over_of : (marks : List (Mark A)) (task : ℕ) → is_left rules terms marks task ≡ false → mark_at marks task ≡ Open → is_over rules terms marks task ≡ true
  over_of marks task gone opened = not-false (is_over rules terms marks task) (rw opened at gone)

  module _ (marks : List (Mark A)) (next : ℕ) (passed : (task : ℕ) → task < next → is_left rules terms marks task ≡ false) where
    -- the first task that is left, by those that are not
    pub nothing_left : length marks ≤ next → first_left rules terms marks ≡ None
    nothing_left high = is_none (is_left rules terms marks) 0 (length marks) (λ task below. passed task (omega (arith, below, high)))

    pub next_left : next < length marks → is_left rules terms marks next ≡ true → first_left rules terms marks ≡ Some next
    next_left below left = is_first (is_left rules terms marks) 0 (length marks) next (omega arith) (omega (arith, below)) left passed

  -- what a draw gives
  pub record IsNext (marks : List (Mark A)) (task : ℕ) : Type 0 where
    pub below : task < length marks
    pub left : is_left rules terms marks task ≡ true

  module _ (marks : List (Mark A)) (seat : ℕ) where
    pub draw_by : (P : Option ℕ → List (Mark A) → Type 0) → (first_left rules terms marks ≡ None → P None marks)
        → ((task : ℕ) → IsNext marks task → P (Some task) (slice_set marks task (Held seat)))
        → P (first_left rules terms marks) (marks_drawn rules terms marks seat)
    draw_by P none some = by (first_left rules terms marks) refl
      where
        by : (found : Option ℕ) → first_left rules terms marks ≡ found → P found (with_holder seat found marks)
        by None is = none is
        by (Some task) is =
            let first = first_passes (is_left rules terms marks) 0 (length marks) task is in
            some task (record { below = omega (arith, first.0); left = first.1 })

    pub post_by : (task : ℕ) (answer : A) (P : Posted → List (Mark A) → Type 0)
        → (is_held_by seat (mark_at marks task) ≡ false → P NotYours marks)
        → (mark_at marks task ≡ Held seat → is_over rules terms marks task ≡ true
        → P (Late (rules.tally terms (answers_in marks) task)) (slice_set marks task (Spent seat)))
        → (mark_at marks task ≡ Held seat → is_over rules terms marks task ≡ false → P Taken (slice_set marks task (Filled seat answer)))
        → P (post_answer rules terms marks seat task) (marks_posted rules terms marks seat task answer)
    post_by task answer P refused late taken =
        elim (cases_Bool (is_held_by seat (mark_at marks task))) [
          | inl held ↦
              let there = held_is seat (mark_at marks task) held in
              elim (cases_Bool (is_over rules terms marks task)) [
                | inl over ↦ rw (held, over) (late there over)
                | inr asked ↦ rw (held, asked) (taken there asked)
              ]
          | inr stray ↦ rw stray (refused stray)
        ]

-- ---- what all steps keep

module _ {B A : Type 0} (rules : Rules B A) (terms : B) where
  -- the seat put this mark at a task that nobody drew, or that it held
  pub record IsStep (marks : List (Mark A)) (seat task : ℕ) (mark : Mark A) : Type 0 where
    pub below : task < length marks
    pub closed : is_open mark ≡ false
    pub was_held : (n : ℕ) → mark_at marks task ≡ Held n → seat ≡ n
    pub is_held : (n : ℕ) → mark ≡ Held n → seat ≡ n
    pub spent : (n : ℕ) → mark ≡ Spent n → is_over rules terms marks task ≡ true
    -- what is over stays over
    pub over : IsLasting rules → length marks ≡ rules.count terms → (other : ℕ) → is_over rules terms marks other ≡ true
        → is_over rules terms (slice_set marks task mark) other ≡ true

  module _ (marks : List (Mark A)) (seat task : ℕ) where
    -- a mark that posts nothing
    over_kept : (mark : Mark A) → task < length marks → answer_in mark ≡ answer_in (mark_at marks task) → (other : ℕ)
        → is_over rules terms marks other ≡ true → is_over rules terms (slice_set marks task mark) other ≡ true
    over_kept mark below same other over = ap (λ answers. rules.is_over terms answers other) (answers-kept marks task mark below same) ∙ over

    pub draws : IsNext rules terms marks task → IsStep marks seat task (Held seat)
    draws next =
        let was : mark_at marks task ≡ Open = left_open rules terms marks task next.left in
        record {
          below = next.below;
          closed = refl;
          was_held = λ n held. let h : Open ≡ Held n = sym was ∙ held in cc;
          is_held = λ n is. cc;
          spent = λ n is. cc;
          over = λ lasting each. over_kept (Held seat) next.below (sym (ap answer_in was));
        }

    module _ (held : mark_at marks task ≡ Held seat) where
      within : task < length marks
      within = closed_below marks task (ap is_open held)

      pub spends : is_over rules terms marks task ≡ true → IsStep marks seat task (Spent seat)
      spends over = record {
        below = within;
        closed = refl;
        was_held = λ n theirs. let h : Held seat ≡ Held n = sym held ∙ theirs in cc;
        is_held = λ n is. cc;
        spent = λ n is. over;
        over = λ lasting each. over_kept (Spent seat) within (sym (ap answer_in held));
      }

      pub fills : (answer : A) → IsStep marks seat task (Filled seat answer)
      fills answer = record {
        below = within;
        closed = refl;
        was_held = λ n theirs. let h : Held seat ≡ Held n = sym held ∙ theirs in cc;
        is_held = λ n is. cc;
        spent = λ n is. cc;
        over = λ lasting each other over.
            let long : length (answers_in marks) ≡ length marks = length-map marks answer_in in
            ap (λ answers. rules.is_over terms answers other) (answers-set marks task (Filled seat answer))
            ∙ lasting terms (answers_in marks) other task answer (long ∙ each) (subst (λ n. task < n) (sym long) within)
            (answer-at marks task (Some answer) within ∙ ap answer_in held) over;
      }

  -- a fact of marks that each step of such a seat keeps
  abbrev pub IsKeptBy : (ℕ → Type 0) → (List (Mark A) → Type 0) → Type 0
  IsKeptBy Who Q = (marks : List (Mark A)) (seat task : ℕ) (mark : Mark A) → Who seat → IsStep marks seat task mark → Q marks → Q (slice_set marks task mark)

  keeps_step : (Who : ℕ → Type 0) (Q : List (Mark A) → Type 0) → IsKeptBy Who Q → (now : Progress A) (seat : ℕ) (call : Call A) → Who seat → Q now.marks
      → Q (progress_after rules terms now seat call).marks
  keeps_step Who Q kept now seat Draw who have =
      draw_by rules terms now.marks seat (λ _ marks. Q marks) (λ none. have)
      (λ task next. kept now.marks seat task (Held seat) who (draws now.marks seat task next) have)
  keeps_step Who Q kept now seat (Post task answer) who have =
      post_by rules terms now.marks seat task answer (λ _ marks. Q marks) (λ stray. have)
      (λ held over. kept now.marks seat task (Spent seat) who (spends now.marks seat task held over) have)
      (λ held asked. kept now.marks seat task (Filled seat answer) who (fills now.marks seat task held answer) have)

  pub keeps_all : (Who : ℕ → Type 0) (Q : List (Mark A) → Type 0) → IsKeptBy Who Q → (now : Progress A) (history : HistoryOf A)
      → Each (λ (step : StepOf (Call A) Reply). Who step.seat) history → Q now.marks → Q (state_after (progress_after rules) terms now history).marks
  keeps_all Who Q kept now [] who have = have
  keeps_all Who Q kept now (step ∷ more) who have =
      keeps_all Who Q kept (progress_after rules terms now step.seat step.request) more who.1
      (keeps_step Who Q kept now step.seat step.request who.0 have)
