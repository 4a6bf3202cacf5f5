-- What a legal history of a board says of each task.
use Rattle.std.proofs.Common.{ℕ, ◌≡◌, ◌<◌, ◌==◌, ◌++◌, ◌∙◌, List, [], ◌∷◌, length, refl, ap, sym, subst, append-nil, append_assoc, slice_set, cond, inl, inr}
use Rattle.std.proofs.lemmas.Bool.{eq-eqb, ne_eqb}
use Rattle.std.proofs.lemmas.List.Elements.{filter-append}
use Rattle.chronicle.specs.declared.journal.StepOf.{StepOf}
use Rattle.chronicle.specs.History.{step_of, IsLegal, state_after}
use Rattle.task_board.specs.declared.calls.Call.{Call}
use Rattle.task_board.specs.declared.calls.Call.TheVariants.{Draw, Post}
use Rattle.task_board.specs.declared.calls.Posted.{Posted}
use Rattle.task_board.specs.declared.calls.Posted.TheVariants.{Late, Taken}
use Rattle.task_board.specs.declared.calls.Reply.{Reply}
use Rattle.task_board.specs.declared.calls.Reply.TheVariants.{Draw as Drew}
use Rattle.task_board.specs.declared.data.Progress.{Progress}
use Rattle.task_board.specs.declared.mark.Mark.{Mark}
use Rattle.task_board.specs.declared.mark.Mark.TheVariants.{Open, Held, Filled, Spent}
use Rattle.task_board.specs.Fates.{calls_on, is_on_call, drew, posted}
use Rattle.task_board.specs.Marks.{mark_at, is_open, answers_in}
use Rattle.task_board.specs.Openings.{IsOpening}
use Rattle.task_board.specs.Rules.{Rules}
use Rattle.task_board.specs.Seats.{HistoryOf}
use Rattle.task_board.specs.Shared.{is_sound, reply_to, progress_after}
use Rattle.task_board.proofs.Keeping.{open_at}
use Rattle.task_board.proofs.Marking.{mark-set, closed_below}
use Rattle.task_board.proofs.Stepping.{draw_by, post_by, left_open}

module _ {A : Type 0} where
  -- the calls on a task that brought it where it stands
  abbrev pub AreCallsTo : ℕ → Mark A → HistoryOf A → Type 0
  AreCallsTo task Open calls = calls ≡ []
  AreCallsTo task (Held seat) calls = calls ≡ drew seat task ∷ []
  AreCallsTo task (Filled seat answer) calls = calls ≡ drew seat task ∷ posted seat task answer Taken ∷ []
  AreCallsTo task (Spent seat) calls = (answer : A) × (count : ℕ) × (calls ≡ drew seat task ∷ posted seat task answer (Late count) ∷ [])

  -- calls that are not on the task
  still : (task : ℕ) (p q : Mark A) (past extra : HistoryOf A) → q ≡ p → extra ≡ [] → AreCallsTo task p past → AreCallsTo task q (past ++ extra)
  still task p q past extra same none are =
      subst (λ m. AreCallsTo task m (past ++ extra)) (sym same)
      (subst (λ l. AreCallsTo task p l) (sym (ap (λ l. past ++ l) none ∙ append-nil past)) are)

  -- a call that changes the mark of one task: of that task it is what led to the new mark, and of any other it is no call
  changed : (marks : List (Mark A)) (task other : ℕ) (mark : Mark A) (past : HistoryOf A) (step : StepOf (Call A) Reply) → task < length marks
      → ((t : ℕ) → calls_on t (step ∷ []) ≡ cond (task == t) (step ∷ []) [])
      → (AreCallsTo task (mark_at marks task) past → AreCallsTo task mark (past ++ step ∷ []))
      → AreCallsTo other (mark_at marks other) past → AreCallsTo other (mark_at (slice_set marks task mark) other) (past ++ calls_on other (step ∷ []))
  changed marks task other mark past step below on into are = elim (mark-set marks task other mark below) [
    | inl at ↦
        subst (λ t. AreCallsTo t (mark_at marks t) past → AreCallsTo t (mark_at (slice_set marks task mark) other) (past ++ calls_on t (step ∷ []))) (sym at.0)
        (λ mine. subst (λ m. AreCallsTo task m (past ++ calls_on task (step ∷ []))) (sym at.1)
        (subst (λ l. AreCallsTo task mark (past ++ l)) (sym (on task ∙ ap (λ t. cond t (step ∷ []) []) (eq-eqb task task refl))) (into mine)))
        are
    | inr at ↦
        still other (mark_at marks other) (mark_at (slice_set marks task mark) other) past (calls_on other (step ∷ [])) at.1
        (on other ∙ ap (λ t. cond t (step ∷ []) []) (ne_eqb task other (λ same. at.0 (sym same)))) are
  ]

module _ {B A : Type 0} (rules : Rules B A) (terms : B) where
  -- the call, with the reply that is due
  replied_tells : (now : Progress A) (seat w : ℕ) (call : Call A) (past : HistoryOf A) → AreCallsTo w (mark_at now.marks w) past
      → AreCallsTo w (mark_at (progress_after rules terms now seat call).marks w)
      (past ++ calls_on w (step_of seat call (reply_to rules terms now seat call) ∷ []))
  replied_tells now seat w Draw past are =
      draw_by rules terms now.marks seat (λ found marks. AreCallsTo w (mark_at marks w) (past ++ calls_on w (step_of seat Draw (Drew found) ∷ [])))
      (λ none. still w (mark_at now.marks w) (mark_at now.marks w) past [] refl refl are)
      (λ task next.
      changed now.marks task w (Held seat) past (drew seat task) next.below (λ t. refl)
      (λ were. ap (λ l. l ++ drew seat task ∷ []) (subst (λ m. AreCallsTo task m past) (left_open rules terms now.marks task next.left) were)) are)
  replied_tells now seat w (Post task answer) past are =
      let late : Posted = Late (rules.tally terms (answers_in now.marks) task) in
      post_by rules terms now.marks seat task answer (λ said marks. AreCallsTo w (mark_at marks w) (past ++ calls_on w (posted seat task answer said ∷ [])))
      (λ stray. still w (mark_at now.marks w) (mark_at now.marks w) past [] refl refl are)
      (λ held over.
      changed now.marks task w (Spent seat) past (posted seat task answer late) (closed_below now.marks task (ap is_open held)) (λ t. refl)
      (λ were. (
        answer,
        rules.tally terms (answers_in now.marks) task,
        ap (λ l. l ++ posted seat task answer late ∷ []) (subst (λ m. AreCallsTo task m past) held were),
      ))
      are)
      (λ held asked.
      changed now.marks task w (Filled seat answer) past (posted seat task answer Taken) (closed_below now.marks task (ap is_open held)) (λ t. refl)
      (λ were. ap (λ l. l ++ posted seat task answer Taken ∷ []) (subst (λ m. AreCallsTo task m past) held were)) are)

  all_tell : (now : Progress A) (history past : HistoryOf A) (w : ℕ) → IsLegal (is_sound rules) (progress_after rules) (reply_to rules) terms now history
      → AreCallsTo w (mark_at now.marks w) past
      → AreCallsTo w (mark_at (state_after (progress_after rules) terms now history).marks w) (past ++ calls_on w history)
  all_tell now [] past w legal are = subst (λ l. AreCallsTo w (mark_at now.marks w) l) (sym (append-nil past)) are
  all_tell now (step ∷ more) past w legal are =
      let next = progress_after rules terms now step.seat step.request in
      let one = calls_on w (step ∷ []) in
      let here : AreCallsTo w (mark_at next.marks w) (past ++ one) =
      subst (λ r. AreCallsTo w (mark_at next.marks w) (past ++ calls_on w (step_of step.seat step.request r ∷ []))) (sym legal.1)
      (replied_tells now step.seat w step.request past are) in
      let rest = all_tell next more (past ++ one) w legal.2 here in
      let split : calls_on w (step ∷ more) ≡ one ++ calls_on w more =
      filter-append (λ (s : StepOf (Call A) Reply). is_on_call w s.request s.reply) (step ∷ []) more in
      subst (λ l. AreCallsTo w (mark_at (state_after (progress_after rules) terms next more).marks w) l)
      (append_assoc past one (calls_on w more) ∙ ap (λ l. past ++ l) (sym split)) rest

  pub opened_at : (opening : Progress A) → IsOpening rules terms opening → (w : ℕ) → mark_at opening.marks w ≡ Open
  opened_at opening opens w = ap (λ (p : Progress A). mark_at p.marks w) opens ∙ open_at (rules.count terms) w

  -- the calls on each task are those that brought it where it stands
  pub calls_tell : (opening : Progress A) (history : HistoryOf A) → IsOpening rules terms opening
      → IsLegal (is_sound rules) (progress_after rules) (reply_to rules) terms opening history
      → (w : ℕ) → AreCallsTo w (mark_at (state_after (progress_after rules) terms opening history).marks w) (calls_on w history)
  calls_tell opening history opens legal w =
      all_tell opening history [] w legal (subst (λ m. AreCallsTo w m []) (sym (opened_at opening opens w)) refl)
