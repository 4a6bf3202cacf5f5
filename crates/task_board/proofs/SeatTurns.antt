-- A seat's calls on a board.
use Rattle.std.proofs.Common.{ℕ, ◌≡◌, ◌≢◌, ◌≤◌, ◌<◌, ◌+◌, ◌-◌, ◌++◌, ◌∙◌, ◌↔◌, true, false, List, [], ◌∷◌, Some, None, Option, length, nat_lt, take, refl, ap, sym, subst, arith, slice_set, inl, inr}
use Rattle.std.proofs.Math.Seq.{take-append_seam}
use Rattle.std.specs.Prelude.{⊤}
use Rattle.std.proofs.lemmas.Bool.{and_from, and_parts, false≢true, lt-ltb, ltb-true}
use Rattle.std.proofs.lemmas.List.{length-append, length-replicate}
use Rattle.std.proofs.lemmas.List.Elements.{filter-append}
use Rattle.chronicle.specs.declared.journal.StepOf.{StepOf}
use Rattle.chronicle.specs.History.{step_of, IsLegal, state_after, calls_by, Extends}
use Rattle.chronicle.proofs.HistoryLaws.{state_after-append, reply_of_step}
use Rattle.task_board.specs.declared.calls.Call.{Call}
use Rattle.task_board.specs.declared.calls.Call.TheVariants.{Draw, Post}
use Rattle.task_board.specs.declared.calls.Posted.{Posted}
use Rattle.task_board.specs.declared.calls.Posted.TheVariants.{NotYours, Late, Taken}
use Rattle.task_board.specs.declared.calls.Reply.{Reply}
use Rattle.task_board.specs.declared.calls.Reply.TheVariants.{Draw as Drew, Post as Answered}
use Rattle.task_board.specs.declared.data.Progress.{Progress}
use Rattle.task_board.specs.declared.mark.Mark.{Mark}
use Rattle.task_board.specs.declared.mark.Mark.TheVariants.{Open, Held, Filled, Spent}
use Rattle.task_board.specs.Marks.{mark_at, is_open, is_held_by, answers_in}
use Rattle.task_board.specs.Openings.{IsOpening}
use Rattle.task_board.specs.Rules.{Rules}
use Rattle.task_board.specs.Seats.{BoardOf, SeatOf, HistoryOf, is_done, is_post, dones, posts, undrawn, marks_after, marks_before_last, Holds, HoldsNothing, HoldsOnly, IsSeatOf, IsFree}
use Rattle.task_board.specs.Shared.{is_sound, progress, reply_to, progress_after}
use Rattle.task_board.specs.Steps.{first_left, post_answer}
use Rattle.task_board.specs.Turns.{HoldsDrawn, AfterDraw, HasDrawn, HasPosted}
use Rattle.task_board.proofs.Keeping.{anyone, others, keeps_count, keeps_holder, keeps_undrawn, undrawn-drawn, undrawn-posted}
use Rattle.task_board.proofs.Marking.{mark-same, mark-set, closed_below, is_held}
use Rattle.task_board.proofs.Stepping.{IsNext, draw_by, post_by, keeps_all, left_open}

dones-append : {A : Type 0} (xs ys : HistoryOf A) → dones (xs ++ ys) ≡ dones xs + dones ys
dones-append {A = A} xs ys = ap length (filter-append (λ (step : StepOf (Call A) Reply). is_done step.reply) xs ys) ∙ length-append _ _

posts-append : {A : Type 0} (xs ys : HistoryOf A) → posts (xs ++ ys) ≡ posts xs + posts ys
posts-append {A = A} xs ys = ap length (filter-append (λ (step : StepOf (Call A) Reply). is_post step.request) xs ys) ∙ length-append _ _

front_of : {X : Type 0} (xs : List X) (x : X) → take (length (xs ++ x ∷ []) - 1) (xs ++ x ∷ []) ≡ xs
front_of xs x =
    let front : length (xs ++ x ∷ []) - 1 ≡ length xs = omega (arith, length-append xs (x ∷ [])) in
    ap (λ j. take j (xs ++ x ∷ [])) front ∙ take-append_seam xs (x ∷ [])

-- a sound post is of a task of the board, with a right answer
module _ {B A : Type 0} (rules : Rules B A) (terms : B) (task : ℕ) (answer : A) where
  pub sound_parts : is_sound rules terms (Post task answer) ≡ true → (task < rules.count terms) × (rules.is_right terms task answer ≡ true)
  sound_parts sound =
      let both = and_parts (nat_lt task (rules.count terms)) (rules.is_right terms task answer) sound in (ltb-true task (rules.count terms) both.0, both.1)

  pub sound_post : task < rules.count terms → rules.is_right terms task answer ≡ true → is_sound rules terms (Post task answer) ≡ true
  sound_post below right = and_from (nat_lt task (rules.count terms)) _ (lt-ltb task (rules.count terms) below) right

-- what is kept through a history keeps who holds a task, if its calls are those of others
module _ {B A : Type 0} (rules : Rules B A) (terms : B) where
  pub holder_stays : (now : Progress A) (history : HistoryOf A) (n task : ℕ) → calls_by n history ≡ []
      → (mark_at now.marks task ≡ Held n) ↔ (mark_at (state_after (progress_after rules) terms now history).marks task ≡ Held n)
  holder_stays now history n task none =
      keeps_all rules terms (λ seat. seat ≢ n) _ (keeps_holder rules terms n task (mark_at now.marks task ≡ Held n)) now history (others n history none)
      ((λ held. held), (λ held. held))

  pub count_stays : (now : Progress A) (history : HistoryOf A) → length now.marks ≡ rules.count terms
      → length (state_after (progress_after rules) terms now history).marks ≡ rules.count terms
  count_stays now history have = keeps_all rules terms (λ _. ⊤) _ (keeps_count rules terms) now history (anyone history) have

  pub count_after : (opening : Progress A) (history : HistoryOf A) → IsOpening rules terms opening
      → length (state_after (progress_after rules) terms opening history).marks ≡ rules.count terms
  count_after opening history opens =
      count_stays opening history (ap (λ (p : Progress A). length p.marks) opens ∙ length-replicate (rules.count terms) Open)

  undrawn_falls : (now : Progress A) (history : HistoryOf A) → undrawn (state_after (progress_after rules) terms now history).marks ≤ undrawn now.marks
  undrawn_falls now history = keeps_all rules terms (λ _. ⊤) _ (keeps_undrawn rules terms (undrawn now.marks)) now history (anyone history) (omega arith)

module _ {B A : Type 0} (rules : Rules B A) (board : BoardOf B A) where
  -- a seat that may draw, or post, has a call left
  pub may_draw : (seat : SeatOf B A) → IsSeatOf rules board seat → dones seat.own ≡ 0 → 1 ≤ seat.left
  may_draw seat is_seat none = omega (arith, is_seat.calls_left, is_seat.few_posts, none)

  pub may_post : (seat : SeatOf B A) → IsSeatOf rules board seat → posts seat.own < rules.count board.base → 1 ≤ seat.left
  may_post seat is_seat few = omega (arith, is_seat.calls_left, is_seat.one_done, few)

  module _ (call : Call A) (reply : Reply) (old new : SeatOf B A) where
    -- what a call of the chronicle says
    pub record HasCalled : Type 0 where
      pub seen : Extends old.seen new.seen (step_of old.number call reply)
      pub legal : IsLegal (is_sound rules) (progress_after rules) (reply_to rules) board.base board.opening new.seen
      pub own : new.own ≡ old.own ++ step_of old.number call reply ∷ []
      pub all_own : calls_by old.number new.seen ≡ new.own
      pub others : (between : HistoryOf A) → new.seen ≡ (old.seen ++ between) ++ step_of old.number call reply ∷ [] → calls_by old.number between ≡ []
      pub left : new.left + 1 ≡ old.left
      pub same : (new.chronicle ≡ old.chronicle) × (new.number ≡ old.number)

    -- the moment of the call: where the tasks stand just before it, and what it changes
    record Moment : Type 0 where
      pub marks : List (Mark A)
      pub count : length marks ≡ rules.count board.base
      pub before : marks_before_last rules board new ≡ marks
      pub replied : reply ≡ reply_to rules board.base (progress marks) old.number call
      pub after : marks_after rules board new.seen ≡ (progress_after rules board.base (progress marks) old.number call).marks
      -- what the seat held it holds just before its call, and nothing else
      pub held : (task : ℕ) → Holds rules board old task ↔ (mark_at marks task ≡ Held old.number)
      pub fewer : undrawn marks ≤ undrawn (marks_after rules board old.seen)
      pub dones_more : dones new.own ≡ dones old.own + dones (step_of old.number call reply ∷ [])
      pub posts_more : posts new.own ≡ posts old.own + posts (step_of old.number call reply ∷ [])

    moment : IsSeatOf rules board old → HasCalled → Moment
    moment is_seat called =
        let front : HistoryOf A = old.seen ++ called.seen.0 in
        let step = step_of old.number call reply in
        let was : Progress A = state_after (progress_after rules) board.base board.opening old.seen in
        let now : Progress A = state_after (progress_after rules) board.base board.opening front in
        let then_is : now ≡ state_after (progress_after rules) board.base was called.seen.0 =
        state_after-append (progress_after rules) board.base board.opening old.seen called.seen.0 in
        record {
          marks = now.marks;
          count = count_after rules board.base board.opening front is_seat.opening;
          before = ap (λ l. marks_after rules board (take (length l - 1) l)) called.seen.1 ∙ ap (marks_after rules board) (front_of front step);
          replied =
              reply_of_step (is_sound rules) (progress_after rules) (reply_to rules) board.base board.opening front [] step
              (subst (λ l. IsLegal (is_sound rules) (progress_after rules) (reply_to rules) board.base board.opening l) called.seen.1 called.legal);
          after =
              ap (marks_after rules board) called.seen.1
              ∙ ap (λ (p : Progress A). p.marks) (state_after-append (progress_after rules) board.base board.opening front (step ∷ []));
          held = λ task. subst (λ (p : Progress A). Holds rules board old task ↔ (mark_at p.marks task ≡ Held old.number)) (sym then_is)
              (holder_stays rules board.base was called.seen.0 old.number task (called.others called.seen.0 called.seen.1));
          fewer = subst (λ (p : Progress A). undrawn p.marks ≤ undrawn was.marks) (sym then_is) (undrawn_falls rules board.base was called.seen.0);
          dones_more = ap dones called.own ∙ dones-append old.own (step ∷ []);
          posts_more = ap posts called.own ∙ posts-append old.own (step ∷ []);
        }

    -- what the seat holds, by the marks after the call
    holds_by : HasCalled → (marks : List (Mark A)) → marks_after rules board new.seen ≡ marks → (task : ℕ)
        → Holds rules board new task ↔ (mark_at marks task ≡ Held old.number)
    holds_by called marks is task =
        let same : mark_at (marks_after rules board new.seen) task ≡ mark_at marks task = ap (λ m. mark_at m task) is in
        let number = ap (λ (n : ℕ). let m : Mark A = Held n in m) called.same.1 in
        ((λ holds. sym same ∙ holds ∙ number), (λ holds. same ∙ holds ∙ sym number))

    -- the seat after the call, which drew a task, posted, or was answered that there is none
    seat_after : IsSeatOf rules board old → HasCalled → dones new.own ≤ 1 → posts new.own ≤ rules.count board.base
        → undrawn (marks_after rules board new.seen) + posts old.own + dones old.own
        < undrawn (marks_after rules board old.seen) + posts new.own + dones new.own → IsSeatOf rules board new
    seat_after is_seat called one few falls = record {
      of = called.same.0 ∙ is_seat.of;
      opening = is_seat.opening;
      legal = called.legal;
      all_own = subst (λ n. calls_by n new.seen ≡ new.own) (sym called.same.1) called.all_own;
      one_done = one;
      few_posts = few;
      calls =
          let longer = ap length called.own ∙ length-append old.own (step_of old.number call reply ∷ []) in
          omega (arith, is_seat.calls, called.left, longer);
      calls_left = omega (arith, is_seat.calls_left, called.left, falls);
    }

-- ---- draws

module _ {B A : Type 0} (rules : Rules B A) (board : BoardOf B A) (old new : SeatOf B A) (is_seat : IsSeatOf rules board old) (drew : Option ℕ)
    (called : HasCalled rules board Draw (Drew drew) old new) (free : HoldsNothing rules board old) (fresh : dones old.own ≡ 0) where
  drawing : Moment rules board Draw (Drew drew) old new
  drawing = moment rules board Draw (Drew drew) old new is_seat called

  draw_is : drew ≡ first_left rules board.base drawing.marks
  draw_is = let h : Drew drew ≡ Drew (first_left rules board.base drawing.marks) = drawing.replied in cc

  holds_none : (task : ℕ) → ¬ (mark_at drawing.marks task ≡ Held old.number)
  holds_none task there = free task ((drawing.held task).1 there)

  -- the calls of the seat that were answered that there is no task
  dones_are : (found : Option ℕ) → drew ≡ found → dones new.own ≡ dones {A = A} (step_of old.number Draw (Drew found) ∷ [])
  dones_are found is = subst (λ d. dones new.own ≡ dones {A = A} (step_of old.number Draw (Drew d) ∷ [])) is (omega (arith, drawing.dones_more, fresh))

  -- a draw of this, from what the seat then holds
  drew_so : (found : Option ℕ) → drew ≡ found → IsSeatOf rules board new → HoldsDrawn rules board found new
      → (IsFree rules board old → AfterDraw rules board found new) → HasDrawn rules board old drew new
  drew_so found is seat holds turn = record {
    seat = seat;
    answer = draw_is ∙ ap (first_left rules board.base) (sym drawing.before);
    holds = subst (λ t. HoldsDrawn rules board t new) (sym is) holds;
    turn = λ was. subst (λ t. AfterDraw rules board t new) (sym is) (turn was);
    seen = called.seen;
    own = called.own;
    number = called.same.1;
  }

  drew_none : drew ≡ None → marks_after rules board new.seen ≡ drawing.marks → HasDrawn rules board old drew new
  drew_none is after =
      let done : dones new.own ≡ 1 = dones_are None is in
      let same : undrawn (marks_after rules board new.seen) ≡ undrawn drawing.marks = ap undrawn after in
      let seat =
      seat_after rules board Draw (Drew drew) old new is_seat called (omega (arith, done)) (omega (arith, drawing.posts_more, is_seat.few_posts))
      (omega (arith, same, drawing.fewer, drawing.posts_more, done, fresh)) in
      let nothing : HoldsNothing rules board new = λ task holds.
      holds_none task ((holds_by rules board Draw (Drew drew) old new called drawing.marks after task).0 holds) in
      drew_so None is seat (nothing, done) (λ turn. record { is_seat = seat; holds_nothing = nothing; done = done })

  drew_task : (task : ℕ) → IsNext rules board.base drawing.marks task → drew ≡ Some task
      → marks_after rules board new.seen ≡ slice_set drawing.marks task (Held old.number) → HasDrawn rules board old drew new
  drew_task task next is after =
      let not_done : dones new.own ≡ 0 = dones_are (Some task) is in
      let one_less : undrawn (marks_after rules board new.seen) + 1 ≡ undrawn drawing.marks =
      ap (λ m. undrawn m + 1) after
      ∙ undrawn-drawn drawing.marks task (Held old.number) next.below (left_open rules board.base drawing.marks task next.left) refl in
      let seat =
      seat_after rules board Draw (Drew drew) old new is_seat called (omega (arith, not_done)) (omega (arith, drawing.posts_more, is_seat.few_posts))
      (omega (arith, one_less, drawing.fewer, drawing.posts_more, not_done, fresh)) in
      let holds = holds_by rules board Draw (Drew drew) old new called (slice_set drawing.marks task (Held old.number)) after in
      let only : HoldsOnly rules board task new = record {
        below = subst (λ n. task < n) drawing.count next.below;
        holds = (holds task).1 (mark-same drawing.marks task (Held old.number) next.below);
        alone = λ other theirs. elim (mark-set drawing.marks task other (Held old.number) next.below) [
          | inl at ↦ at.0
          | inr at ↦ absurd (holds_none other (sym at.1 ∙ (holds other).0 theirs))
        ];
      } in
      drew_so (Some task) is seat (only, not_done) (λ turn. record {
        is_seat = seat;
        only = only;
        not_done = not_done;
        others_posted = omega (arith, drawing.posts_more, one_less, drawing.fewer, turn.each_posted);
      })

  pub has_drawn : HasDrawn rules board old drew new
  has_drawn =
      draw_by rules board.base drawing.marks old.number
      (λ found after. drew ≡ found → marks_after rules board new.seen ≡ after → HasDrawn rules board old drew new)
      (λ none. drew_none) drew_task draw_is drawing.after

-- a draw is answered a draw, and a post a post

module _ {B A : Type 0} (rules : Rules B A) (board : BoardOf B A) (old new : SeatOf B A) (is_seat : IsSeatOf rules board old) where
  pub no_post : (reply : Reply) (said : Posted) → HasCalled rules board Draw reply old new → reply ≡ Answered said → ⊥
  no_post reply said called is =
      let h : Answered said ≡ Drew _ = sym is ∙ (moment rules board Draw reply old new is_seat called).replied in cc

  pub no_draw : (task : ℕ) (answer : A) (reply : Reply) (found : Option ℕ) → HasCalled rules board (Post task answer) reply old new → reply ≡ Drew found → ⊥
  no_draw task answer reply found called is =
      let h : Drew found ≡ Answered _ = sym is ∙ (moment rules board (Post task answer) reply old new is_seat called).replied in cc

-- ---- posts

module _ {B A : Type 0} (rules : Rules B A) (board : BoardOf B A) (old new : SeatOf B A) (is_seat : IsSeatOf rules board old) (task : ℕ) (answer : A)
    (said : Posted) (called : HasCalled rules board (Post task answer) (Answered said) old new) (few : posts old.own < rules.count board.base) where
  posting : Moment rules board (Post task answer) (Answered said) old new
  posting = moment rules board (Post task answer) (Answered said) old new is_seat called

  said_is : said ≡ post_answer rules board.base posting.marks old.number task
  said_is = let h : Answered said ≡ Answered (post_answer rules board.base posting.marks old.number task) = posting.replied in cc

  -- a post, from who holds what after it, and that no more tasks are drawn
  posted_so : undrawn (marks_after rules board new.seen) ≡ undrawn posting.marks → ((said ≡ NotYours) ↔ (¬ Holds rules board old task))
      → ((other : ℕ) → Holds rules board new other ↔ (Holds rules board old other × (¬ (other ≡ task)))) → HasPosted rules board old task answer said new
  posted_so same not_yours holds =
      let seat =
      seat_after rules board (Post task answer) (Answered said) old new is_seat called (omega (arith, posting.dones_more, is_seat.one_done))
      (omega (arith, posting.posts_more, few)) (omega (arith, same, posting.fewer, posting.posts_more, posting.dones_more)) in
      record {
        seat = seat;
        answered = said_is ∙ ap (λ m. post_answer rules board.base m old.number task) (sym posting.before);
        not_yours = not_yours;
        holds = holds;
        turn = λ holding. record {
          is_seat = seat;
          holds_nothing = λ other theirs. let was = (holds other).0 theirs in was.1 (holding.only.alone other was.0);
          not_done = omega (arith, posting.dones_more, holding.not_done);
          each_posted = omega (arith, same, posting.fewer, posting.posts_more, holding.others_posted);
        };
        seen = called.seen;
        own = called.own;
        number = called.same.1;
      }

  -- a post of a task that the seat does not hold
  stray_post : is_held_by old.number (mark_at posting.marks task) ≡ false → said ≡ NotYours → marks_after rules board new.seen ≡ posting.marks
      → HasPosted rules board old task answer said new
  stray_post stray is after =
      let none : ¬ Holds rules board old task = λ holds.
      false≢true (sym stray ∙ is_held old.number (mark_at posting.marks task) ((posting.held task).0 holds)) in
      let now = holds_by rules board (Post task answer) (Answered said) old new called posting.marks after in
      posted_so (ap undrawn after) ((λ _. none), (λ _. is))
      (λ other. (
        (λ holds.
            let was : Holds rules board old other = (posting.held other).1 ((now other).0 holds) in
            (was, (λ same. none (subst (λ t. Holds rules board old t) same was)))),
        (λ was. (now other).1 ((posting.held other).0 was.0)),
      ))

  -- a post of the task that it holds, of which this is left
  own_post : (mark : Mark A) → is_open mark ≡ false → ¬ (mark ≡ Held old.number) → mark_at posting.marks task ≡ Held old.number → ¬ (said ≡ NotYours)
      → marks_after rules board new.seen ≡ slice_set posting.marks task mark → HasPosted rules board old task answer said new
  own_post mark closed differs there yours after =
      let now = holds_by rules board (Post task answer) (Answered said) old new called (slice_set posting.marks task mark) after in
      posted_so (ap undrawn after ∙ undrawn-posted posting.marks task old.number mark there closed)
      ((λ refused. absurd (yours refused)), (λ free. absurd (free ((posting.held task).1 there))))
      (λ other. elim (mark-set posting.marks task other mark (closed_below posting.marks task (ap is_open there))) [
        | inl at ↦ ((λ holds. absurd (differs (sym at.1 ∙ (now other).0 holds))), (λ was. absurd (was.1 at.0)))
        | inr at ↦ ((λ holds. ((posting.held other).1 (sym at.1 ∙ (now other).0 holds), at.0)), (λ was. (now other).1 (at.1 ∙ (posting.held other).0 was.0)))
      ])

  pub has_posted : HasPosted rules board old task answer said new
  has_posted =
      post_by rules board.base posting.marks old.number task answer
      (λ told after. said ≡ told → marks_after rules board new.seen ≡ after → HasPosted rules board old task answer said new) stray_post
      (λ there over is. own_post (Spent old.number) refl (λ same. cc) there
      (λ refused. let e : NotYours ≡ Late (rules.tally board.base (answers_in posting.marks) task) = sym refused ∙ is in cc))
      (λ there asked is. own_post (Filled old.number answer) refl (λ same. cc) there (λ refused. let e : NotYours ≡ Taken = sym refused ∙ is in cc))
      said_is posting.after
