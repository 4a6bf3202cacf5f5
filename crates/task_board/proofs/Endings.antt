-- A board whose seats have finished.
use Rattle.std.proofs.Common.{ℕ, ◌≡◌, ◌≤◌, ◌<◌, ◌==◌, ◌++◌, ◌∙◌, ◌⊎◌, Bool, true, false, List, [], ◌∷◌, None, Some, Option, length, filter, refl, ap, sym, subst, arith, inl, inr}
use Rattle.std.specs.List.{All, Any, list_any, AllByRecursion as Each}
use Rattle.std.specs.Prelude.{IsSome, ⊤}
use Rattle.std.proofs.lemmas.Bool.{cases_Bool, false≢true}
use Rattle.std.proofs.lemmas.List.Elements.{recursion_from_All}
use Rattle.market_units.specs.Beginnings.{BeginsWith}
use Rattle.chronicle.specs.declared.journal.StepOf.{StepOf}
use Rattle.chronicle.specs.History.{IsLegal, state_after, calls_by}
use Rattle.chronicle.proofs.HistoryLaws.{state_after-append}
use Rattle.task_board.specs.declared.calls.Call.{Call}
use Rattle.task_board.specs.declared.calls.Call.TheVariants.{Draw, Post}
use Rattle.task_board.specs.declared.calls.Posted.{Posted}
use Rattle.task_board.specs.declared.calls.Posted.TheVariants.{Late, Taken}
use Rattle.task_board.specs.declared.calls.Reply.{Reply}
use Rattle.task_board.specs.declared.calls.Reply.TheVariants.{Draw as Drew}
use Rattle.task_board.specs.declared.data.Progress.{Progress}
use Rattle.task_board.specs.declared.mark.Mark.{Mark}
use Rattle.task_board.specs.declared.mark.Mark.TheVariants.{Open, Held, Filled, Spent}
use Rattle.task_board.specs.Closings.{IsEndOf}
use Rattle.task_board.specs.Fates.{calls_on, is_on_call, drew, posted, IsWorked, IsTaken, IsTakenOrLate}
use Rattle.task_board.specs.Kept.{AreSettled}
use Rattle.task_board.specs.Marks.{mark_at, answer_in}
use Rattle.task_board.specs.Openings.{IsOpening}
use Rattle.task_board.specs.Rules.{Rules, IsLasting}
use Rattle.task_board.specs.Seats.{BoardOf, SeatOf, HistoryOf, is_done, dones, marks_after, IsFinished}
use Rattle.task_board.specs.Shared.{is_sound, progress, reply_to, progress_after}
use Rattle.task_board.specs.Steps.{is_over, is_left, first_left}
use Rattle.task_board.proofs.Histories.{AreCallsTo, calls_tell, opened_at}
use Rattle.task_board.proofs.Keeping.{IsGone, SpentAreOver, anyone, keeps_gone, keeps_spent}
use Rattle.task_board.proofs.SeatTurns.{count_after, count_stays, holder_stays, sound_parts}
use Rattle.task_board.proofs.Stepping.{keeps_all, none_is, over_of}

-- what holds of all steps holds of some of them
each_of : {X : Type 0} (P : X → Type 0) (test : X → Bool) (xs : List X) → Each P xs → Each P (filter test xs)
each_of P test [] all = tt
each_of P test (x ∷ xs) all = elim (cases_Bool (test x)) [
  | inl passes ↦ rw passes (all.0, each_of P test xs all.1)
  | inr fails ↦ rw fails (each_of P test xs all.1)
]

-- a reply that there is no task, of a seat, is one of the history
done_of_seat : {A : Type 0} (n : ℕ) (history : HistoryOf A) → 1 ≤ dones (calls_by n history)
    → list_any (λ (step : StepOf (Call A) Reply). is_done step.reply) history ≡ true
done_of_seat n [] some = absurd (omega arith)
done_of_seat n (step ∷ more) some =
    elim (cases_Bool (is_done step.reply)) [
      | inl here ↦ rw here refl
      | inr later ↦ rw later (elim (cases_Bool (step.seat == n)) [
        | inl own ↦ let h : 1 ≤ dones (step ∷ calls_by n more) = rw own at some in done_of_seat n more (rw later at h)
        | inr other ↦ done_of_seat n more (rw other at some)
      ])
    ]

none_drawn : (found : Option ℕ) → is_done (Drew found) ≡ true → found ≡ None
none_drawn None done = refl
none_drawn (Some other) done = absurd (false≢true done)

module _ {B A : Type 0} (rules : Rules B A) (terms : B) where
  -- each request of a legal history is sound
  each_sound : (now : Progress A) (history : HistoryOf A) → IsLegal (is_sound rules) (progress_after rules) (reply_to rules) terms now history
      → Each (λ (step : StepOf (Call A) Reply). is_sound rules terms step.request ≡ true) history
  each_sound now [] legal = tt
  each_sound now (step ∷ more) legal = (legal.0, each_sound (progress_after rules terms now step.seat step.request) more legal.2)

  -- what a task's calls say of it
  right_in : (now : Progress A) (history : HistoryOf A) (task seat : ℕ) (answer : A) (said : Posted)
      → IsLegal (is_sound rules) (progress_after rules) (reply_to rules) terms now history
      → calls_on task history ≡ drew seat task ∷ posted seat task answer said ∷ [] → rules.is_right terms task answer ≡ true
  right_in now history task seat answer said legal calls =
      let sound = each_of (λ (step : StepOf (Call A) Reply). is_sound rules terms step.request ≡ true)
      (λ (step : StepOf (Call A) Reply). is_on_call task step.request step.reply) history (each_sound now history legal) in
      (sound_parts rules terms task answer
      (subst (λ l. Each (λ (step : StepOf (Call A) Reply). is_sound rules terms step.request ≡ true) l) calls sound).1.0).1

  -- that there is no task is the reply where none is left
  gone_where : (now : Progress A) (seat : ℕ) (call : Call A) → length now.marks ≡ rules.count terms → is_done (reply_to rules terms now seat call) ≡ true
      → (task : ℕ) → task < rules.count terms → IsGone rules terms task now.marks
  gone_where now seat Draw each done task below = record {
    each = each;
    gone =
        none_is (is_left rules terms now.marks) 0 (length now.marks) (none_drawn (first_left rules terms now.marks) done) task (omega arith)
        (omega (arith, each, below));
  }
  gone_where now seat (Post other answer) each done task below = absurd (false≢true done)

  -- and none is left after it
  gone_after : IsLasting rules → (now : Progress A) (history : HistoryOf A) → IsLegal (is_sound rules) (progress_after rules) (reply_to rules) terms now history
      → length now.marks ≡ rules.count terms → list_any (λ (step : StepOf (Call A) Reply). is_done step.reply) history ≡ true → (task : ℕ)
      → task < rules.count terms → is_left rules terms (state_after (progress_after rules) terms now history).marks task ≡ false
  gone_after lasting now [] legal each done task below = absurd (false≢true done)
  gone_after lasting now (step ∷ more) legal each done task below =
      elim (cases_Bool (is_done step.reply)) [
        | inl here ↦
            (keeps_all rules terms (λ _. ⊤) (IsGone rules terms task) (keeps_gone rules terms lasting task) now (step ∷ more) (anyone (step ∷ more))
            (gone_where now step.seat step.request each (ap is_done (sym legal.1) ∙ here) task below)).gone
        | inr later ↦
            gone_after lasting (progress_after rules terms now step.seat step.request) more legal.2 (count_stays rules terms now (step ∷ []) each)
            (rw later at done) task below
      ]

module _ {B A : Type 0} (rules : Rules B A) (lasting : IsLasting rules) (board : BoardOf B A) (history : HistoryOf A) (seats : List (SeatOf B A))
    (some : 1 ≤ length board.allotments) (all : (n : ℕ) → n < length board.allotments → Any (λ (s : SeatOf B A). s.number ≡ n) seats)
    (finished : All (λ (s : SeatOf B A). IsFinished rules board s) seats)
    (legal : IsLegal (is_sound rules) (progress_after rules) (reply_to rules) board.base board.opening history)
    (known : All (λ (step : StepOf (Call A) Reply). Any (λ (s : SeatOf B A). s.number ≡ step.seat) seats) history)
    (own : All (λ (s : SeatOf B A). calls_by s.number history ≡ s.own) seats) (seen : All (λ (s : SeatOf B A). BeginsWith history s.seen) seats)
    (apart : All (λ (s : SeatOf B A). (rest : HistoryOf A) → history ≡ s.seen ++ rest → calls_by s.number rest ≡ []) seats) where
  first : Any (λ (s : SeatOf B A). s.number ≡ 0) seats
  first = all 0 some

  -- what holds of all seats holds of one of them
  at_seat : {n : ℕ} (P : SeatOf B A → Type 0) → All P seats → (its : Any (λ (s : SeatOf B A). s.number ≡ n) seats) → P its.1
  at_seat P each its = subst P its.3 (each its.0 its.1 its.2)

  opening : IsOpening rules board.base board.opening
  opening = (at_seat (IsFinished rules board) finished first).is_seat.opening

  none_left : (task : ℕ) → task < rules.count board.base → is_left rules board.base (marks_after rules board history) task ≡ false
  none_left =
      let mine = at_seat (λ s. calls_by s.number history ≡ s.own) own first in
      let one : dones first.1.own ≡ 1 = (at_seat (IsFinished rules board) finished first).done in
      gone_after rules board.base lasting board.opening history legal (count_after rules board.base board.opening [] opening)
      (done_of_seat first.1.number history (subst (λ l. 1 ≤ dones l) (sym mine) (omega (arith, one))))

  spent_over : SpentAreOver rules board.base (marks_after rules board history)
  spent_over =
      keeps_all rules board.base (λ _. ⊤) (SpentAreOver rules board.base) (keeps_spent rules board.base lasting) board.opening history (anyone history)
      (record {
        each = count_after rules board.base board.opening [] opening;
        over =
            λ task seat is. let e : Open ≡ Spent seat = sym (opened_at rules board.base board.opening opening task) ∙ is in cc;
      })

  calls : (task : ℕ) → AreCallsTo task (mark_at (marks_after rules board history) task) (calls_on task history)
  calls task = calls_tell rules board.base board.opening history opening legal task

  -- nobody holds a task
  nobody_holds : (task seat : ℕ) → ¬ (mark_at (marks_after rules board history) task ≡ Held seat)
  nobody_holds task seat held =
      let drawn : calls_on task history ≡ drew seat task ∷ [] = subst (λ m. AreCallsTo task m (calls_on task history)) held (calls task) in
      let by_seats =
      each_of (λ (step : StepOf (Call A) Reply). Any (λ (s : SeatOf B A). s.number ≡ step.seat) seats)
      (λ (step : StepOf (Call A) Reply). is_on_call task step.request step.reply) history (recursion_from_All _ history known) in
      let its : Any (λ (s : SeatOf B A). s.number ≡ seat) seats =
      (subst (λ l. Each (λ (step : StepOf (Call A) Reply). Any (λ (s : SeatOf B A). s.number ≡ step.seat) seats) l) drawn by_seats).0 in
      let begins = at_seat (λ s. BeginsWith history s.seen) seen its in
      let was : Progress A = state_after (progress_after rules) board.base board.opening its.1.seen in
      let split =
      ap (marks_after rules board) begins.1
      ∙ ap (λ (p : Progress A). p.marks) (state_after-append (progress_after rules) board.base board.opening its.1.seen begins.0) in
      let none = at_seat (λ s. (rest : HistoryOf A) → history ≡ s.seen ++ rest → calls_by s.number rest ≡ []) apart its begins.0 begins.1 in
      (at_seat (IsFinished rules board) finished its).holds_nothing task
      ((holder_stays rules board.base was begins.0 its.1.number task none).1 (sym (ap (λ m. mark_at m task) split) ∙ held ∙ ap Held (sym its.4)))

  settled_at : (task : ℕ) (mark : Mark A) → task < rules.count board.base → mark_at (marks_after rules board history) task ≡ mark
      → IsSome (answer_in mark) ⊎ (is_over rules board.base (marks_after rules board history) task ≡ true)
  settled_at task Open below is = inr (over_of rules board.base (marks_after rules board history) task (none_left task below) is)
  settled_at task (Held seat) below is = absurd (nobody_holds task seat is)
  settled_at task (Filled seat answer) below is = inl refl
  settled_at task (Spent seat) below is = inr (spent_over.over task seat is)

  all_settled : AreSettled rules board.base (marks_after rules board history)
  all_settled task below = settled_at task (mark_at (marks_after rules board history) task) below refl

  task_at : (task : ℕ) (mark : Mark A) → AreCallsTo task mark (calls_on task history) → ((seat : ℕ) → ¬ (mark ≡ Held seat))
      → (calls_on task history ≡ []) ⊎ IsWorked rules IsTakenOrLate board.base history task
  task_at task Open are free = inl are
  task_at task (Held seat) are free = absurd (free seat refl)
  task_at task (Filled seat answer) are free =
      inr (seat, answer, Taken, are, right_in rules board.base board.opening history task seat answer Taken legal are, inl refl)
  task_at task (Spent seat) are free =
      inr
      (seat, are.0, Late are.1, are.2, right_in rules board.base board.opening history task seat are.0 (Late are.1) legal are.2, inr (are.1, refl))

  all_tasks : (task : ℕ) → (calls_on task history ≡ []) ⊎ IsWorked rules IsTakenOrLate board.base history task
  all_tasks task = task_at task (mark_at (marks_after rules board history) task) (calls task) (nobody_holds task)

  taken_at : (task : ℕ) (mark : Mark A) → AreCallsTo task mark (calls_on task history) → IsSome (answer_in mark)
      → IsWorked rules IsTaken board.base history task
  taken_at task Open are some_one = absurd (false≢true some_one)
  taken_at task (Held seat) are some_one = absurd (false≢true some_one)
  taken_at task (Filled seat answer) are some_one =
      (seat, answer, Taken, are, right_in rules board.base board.opening history task seat answer Taken legal are, refl)
  taken_at task (Spent seat) are some_one = absurd (false≢true some_one)

  all_taken : (task : ℕ) → IsSome (answer_in (mark_at (marks_after rules board history) task)) → IsWorked rules IsTaken board.base history task
  all_taken task some_one = taken_at task (mark_at (marks_after rules board history) task) (calls task) some_one

  -- the board at its end
  pub ended : (terms : B) (marks : List (Mark A)) → terms ≡ board.base
      → progress marks ≡ state_after (progress_after rules) board.base board.opening history
      → IsEndOf rules board seats (record { marker = record {}; terms = terms; marks = marks; history = history })
  ended terms marks same last =
      let stand : marks ≡ marks_after rules board history = ap (λ (p : Progress A). p.marks) last in
      record {
        terms = same;
        each = ap length stand ∙ count_after rules board.base board.opening history opening;
        legal = legal;
        last = sym last;
        settled = subst (λ t. AreSettled rules t marks) (sym same) (subst (λ m. AreSettled rules board.base m) (sym stand) all_settled);
        by_seats = known;
        own = own;
        seen = seen;
        tasks = all_tasks;
        taken = subst (λ m. (task : ℕ) → IsSome (answer_in (mark_at m task)) → IsWorked rules IsTaken board.base history task) (sym stand) all_taken;
      }
