-- A board that is worked in one thread: its workers before and after a call.
use Rattle.std.proofs.Common.{ℕ, ◌≡◌, ◌<◌, ◌+◌, ◌++◌, ◌∙◌, List, [], ◌∷◌, Option, Some, None, Vec, Global}
use Rattle.std.proofs.Common.{length, replicate, ap, sym, subst, arith, inl, inr, ◌⊎◌, ◌*◌, ◌≤◌}
use Rattle.std.specs.Prelude.{slice_index_or, slice_set}
use Rattle.std.proofs.lemmas.Bool.{cases_eq}
use Rattle.std.proofs.lemmas.List.{length-append, length-replicate, length-set, get_or-replicate, get_or-set_other, length-map}
use Rattle.std.specs.List.{All}
use Rattle.std.proofs.lemmas.List.Elements.{filter-append}
use Rattle.std.proofs.lemmas.Grind.{get_or-set_at}
use Rattle.market_units.specs.declared.units.Tokens.{Tokens}
use Rattle.bundle_rules.specs.declared.bundle.Bundle.{Bundle}
use Rattle.chronicle.specs.History.{step_of}
use Rattle.chronicle.specs.declared.journal.StepOf.{StepOf}
use Rattle.demand_api.specs.declared.crowd.Crowd.{Crowd}
use Rattle.task_board.specs.declared.calls.Call.{Call}
use Rattle.task_board.specs.declared.calls.Call.TheVariants.{Draw as DrawCall, Post}
use Rattle.task_board.specs.declared.calls.Posted.{Posted}
use Rattle.task_board.specs.declared.calls.Reply.{Reply}
use Rattle.task_board.specs.declared.calls.Reply.TheVariants.{Draw as Drew, Post as Answered}
use Rattle.task_board.specs.Seats.{HistoryOf, dones, posts, is_done, is_post}
use Rattle.task_board.specs.Turns.{HasDrawn, HasPosted}
use Rattle.price_board.specs.declared.drawn.Draw.{Draw}
use Rattle.price_board.specs.declared.drawn.Draw.TheVariants.{Task, Done}
use Rattle.price_board.specs.declared.drawn.Drawn.{Drawn}
use Rattle.price_board.specs.Asked.{round_rules}
use Rattle.price_board.specs.Rows.{number_drawn}
use Rattle.price_board.proofs.Numbering.{at_number}
use Rattle.price_board.specs.Seats.{RoundBoard, RoundSeat, IsNumbered, HoldsNothing, IsFinished, IsFree}
use Rattle.price_board.specs.Terms.{count_in, task_count, version_count, student_count}
use Rattle.demand_api.specs.Crowds.{CrowdData}
use Rattle.demand_api.specs.Views.{data_of}
use Rattle.demand_api.proofs.Parts.{students_length}
use Rattle.demand_workers.specs.Rounds.{AreVersionsFor, prices_of}
use Rattle.demand_tests.specs.Drivers.{HoldsSince, IsWorker, IsDriven}

abbrev pub Note : Type 0
Note = Option Draw × ℕ

-- as many versions as the board has
versions_there : (board : RoundBoard) (versions : List (Vec Tokens Global)) → board.base.versions ≡ prices_of versions
    → version_count board.base ≡ length versions
versions_there board versions same = ap length same ∙ length-map versions (λ (version : Vec Tokens Global). version.items)

-- as many students
pub students_there : (board : RoundBoard) (crowd : Crowd) → board.base.crowd ≡ data_of crowd → student_count board.base ≡ length crowd.menus.items
students_there board crowd same = ap (λ (c : CrowdData). length c.students) same ∙ students_length crowd

-- the tasks of four students
pub tasks_of_four : (board : RoundBoard) (crowd : Crowd) (versions : List (Vec Tokens Global)) → board.base.crowd ≡ data_of crowd
    → board.base.versions ≡ prices_of versions → board.base.list ≡ None → length crowd.menus.items ≡ 4 → length versions * 4 ≤ task_count board.base
tasks_of_four board crowd versions its_crowd its_versions each four =
    let n : ℕ = length versions in
    let there : version_count board.base ≡ n = versions_there board versions its_versions in
    let here : student_count board.base ≡ 4 = students_there board crowd its_crowd ∙ four in
    subst (λ l. n * 4 ≤ count_in l board.base) (sym each)
    (subst (λ (v : ℕ). n * 4 ≤ v * student_count board.base) (sym there)
    (subst (λ (s : ℕ). n * 4 ≤ n * s) (sym here) (let goal : n * 4 ≤ n * 4 = omega arith in goal)))

-- a board of which nothing is drawn
pub started : (board : RoundBoard) (crowd : Crowd) (versions : List (Vec Tokens Global)) (least : ℕ) (seats : List RoundSeat) (notes : List Note)
    → board.base.crowd ≡ data_of crowd → board.base.versions ≡ prices_of versions → board.base.list ≡ None → AreVersionsFor (data_of crowd) versions
    → least ≤ task_count board.base → length board.allotments ≡ length seats
    → ((n : ℕ) (d : RoundSeat) → n < length seats → (slice_index_or seats n d).number ≡ n)
    → All (λ (s : RoundSeat). IsFree board s) seats → All (λ (s : RoundSeat). (s.seen ≡ []) × (s.own ≡ [])) seats
    → notes ≡ replicate (length seats) (None, 0) → IsDriven board crowd versions least seats notes
started board crowd versions least seats notes its_crowd its_versions each_student prices tasks all numbers free fresh blank = record {
  its_crowd = its_crowd;
  its_versions = its_versions;
  each_student = each_student;
  prices = prices;
  tasks = tasks;
  all = all;
  noted = ap length blank ∙ length-replicate (length seats) (None, 0);
  each = λ n seat note low.
      subst (λ (m : Note). IsWorker board n (slice_index_or seats n seat) m)
      (sym (ap (λ (l : List Note). slice_index_or l n note) blank ∙ get_or-replicate (length seats) n (None, 0) note low)) (record {
        number = numbers n seat low;
        is_seat = (free n seat low).is_seat;
        holds = ((free n seat low).holds_nothing, (free n seat low).not_done);
        posts = ap posts (fresh n seat low).1;
      });
}

-- the worker at a place
pub worker_at : (board : RoundBoard) (crowd : Crowd) (versions : List (Vec Tokens Global)) (least : ℕ) (seats : List RoundSeat) (notes : List Note)
    (n : ℕ) (seat : RoundSeat) (note : Note) → IsDriven board crowd versions least seats notes → n < length seats
    → seat ≡ slice_index_or seats n seat → note ≡ slice_index_or notes n note → IsWorker board n seat note
worker_at board crowd versions least seats notes n seat note is low here there =
    subst (λ (s : RoundSeat). IsWorker board n s note) (sym here)
    (subst (λ (m : Note). IsWorker board n (slice_index_or seats n seat) m) (sym there) (is.each n seat note low))

-- the board after a call of one worker
pub driven_again : (board : RoundBoard) (crowd : Crowd) (versions : List (Vec Tokens Global)) (least : ℕ) (seats : List RoundSeat) (notes : List Note)
    (n : ℕ) (seat : RoundSeat) (note : Note) → IsDriven board crowd versions least seats notes → n < length seats → IsWorker board n seat note
    → IsDriven board crowd versions least (slice_set seats n seat) (slice_set notes n note)
driven_again board crowd versions least seats notes n seat note is low now = record {
  its_crowd = is.its_crowd;
  its_versions = is.its_versions;
  each_student = is.each_student;
  prices = is.prices;
  tasks = is.tasks;
  all = is.all ∙ sym (length-set seats n seat);
  noted = length-set notes n note ∙ is.noted ∙ sym (length-set seats n seat);
  each = λ k s m below. elim (cases_eq k n) [
    | inl same ↦
        let low' : n < length notes = subst (λ (l : ℕ). n < l) (sym is.noted) low in
        subst (λ (j : ℕ). IsWorker board j (slice_index_or (slice_set seats n seat) k s) (slice_index_or (slice_set notes n note) k m)) (sym same)
        (subst (λ (x : RoundSeat). IsWorker board n x (slice_index_or (slice_set notes n note) k m)) (sym (get_or-set_at seats n k seat s same low))
        (subst (λ (x : Note). IsWorker board n seat x) (sym (get_or-set_at notes n k note m same low')) now))
    | inr apart ↦
        subst (λ (x : RoundSeat). IsWorker board k x (slice_index_or (slice_set notes n note) k m)) (sym (get_or-set_other seats n k seat s apart))
        (subst (λ (x : Note). IsWorker board k (slice_index_or seats k s) x) (sym (get_or-set_other notes n k note m apart))
        (is.each k s m (subst (λ (l : ℕ). k < l) (length-set seats n seat) below)))
  ];
}

dones-append : (xs ys : HistoryOf Bundle) → dones (xs ++ ys) ≡ dones xs + dones ys
dones-append xs ys = ap length (filter-append (λ (step : StepOf (Call Bundle) Reply). is_done step.reply) xs ys) ∙ length-append _ _

posts-append : (xs ys : HistoryOf Bundle) → posts (xs ++ ys) ≡ posts xs + posts ys
posts-append xs ys = ap length (filter-append (λ (step : StepOf (Call Bundle) Reply). is_post step.request) xs ys) ∙ length-append _ _

-- a worker that drew nothing since it posted
pub idle : (board : RoundBoard) (n : ℕ) (seat : RoundSeat) (note : Note) → IsWorker board n seat note → note.0 ≡ None
    → HoldsNothing board seat × (dones seat.own ≡ 0)
idle board n seat note is none = subst (λ (since : Option Draw). HoldsSince board since seat) none is.holds

-- the worker after a draw
pub worker_drew : (board : RoundBoard) (n : ℕ) (old new : RoundSeat) (note : Note) (drawn : Draw) → IsWorker board n old note
    → HasDrawn round_rules board old (number_drawn drawn) new → IsWorker board n new (Some drawn, note.1)
worker_drew board n old new note drawn was has = record {
  number = has.number ∙ was.number;
  is_seat = has.seat;
  holds = has.holds;
  posts =
      ap posts has.own ∙ posts-append old.own (step_of old.number DrawCall (Drew (number_drawn drawn)) ∷ [])
      ∙ (let p : ℕ = posts old.own in let h : p ≡ note.1 = was.posts in let goal : p + 0 ≡ note.1 = omega arith in goal);
}

-- the worker after it posted the task that it held, or held none
pub worker_posted : (board : RoundBoard) (n : ℕ) (old new : RoundSeat) (note : Note) (drawn : Drawn) (bundle : Bundle) (said : Posted)
    → IsWorker board n old note → (note.0 ≡ None) ⊎ (note.0 ≡ Some (Task drawn))
    → HasPosted round_rules board old drawn.number bundle said new → IsWorker board n new (None, note.1 + 1)
worker_posted board n old new note drawn bundle said was since has =
    let number : ℕ = drawn.number in
    let none : dones new.own ≡ dones old.own =
    ap dones has.own ∙ dones-append old.own (step_of old.number (Post number bundle) (Answered said) ∷ [])
    ∙ (let p : ℕ = dones old.own in let goal : p + 0 ≡ p = omega arith in goal) in
    record {
      number = has.number ∙ was.number;
      is_seat = has.seat;
      holds = elim since [
        | inl free ↦
            let held = subst (λ (s : Option Draw). HoldsSince board s old) free was.holds in
            ((λ other there. held.0 other ((has.holds other).0 there).0), none ∙ held.1)
        | inr holds ↦
            let held = subst (λ (s : Option Draw). HoldsSince board s old) holds was.holds in
            ((λ other there. let both = (has.holds other).0 there in both.1 (held.0.alone other both.0)), none ∙ held.1)
      ];
      posts =
          ap posts has.own ∙ posts-append old.own (step_of old.number (Post number bundle) (Answered said) ∷ []) ∙ ap (λ (p : ℕ). p + 1) was.posts;
    }

-- the number that a version and a student of the crowd give
pub numbered_there : (board : RoundBoard) (crowd : Crowd) (versions : List (Vec Tokens Global)) (drawn : Drawn) → board.base.crowd ≡ data_of crowd
    → board.base.versions ≡ prices_of versions → board.base.list ≡ None → drawn.task.version < length versions
    → drawn.task.student.0 < length crowd.menus.items → drawn.task.raised ≡ None
    → drawn.number ≡ drawn.task.version * length crowd.menus.items + drawn.task.student.0 → IsNumbered board.base drawn
numbered_there board crowd versions drawn its_crowd its_versions each low within plain is =
    let all = students_there board crowd its_crowd in
    at_number board.base drawn each (subst (λ (n : ℕ). drawn.task.version < n) (sym (versions_there board versions its_versions)) low)
    (subst (λ (n : ℕ). drawn.task.student.0 < n) (sym all) within) plain
    (is ∙ ap (λ (n : ℕ). drawn.task.version * n + drawn.task.student.0) (sym all))

-- a worker that was told that there is no task
pub worker_ended : (board : RoundBoard) (n : ℕ) (seat : RoundSeat) (note : Note) → IsWorker board n seat note → note.0 ≡ Some Done → IsFinished board seat
worker_ended board n seat note is done =
    let held = subst (λ (since : Option Draw). HoldsSince board since seat) done is.holds in
    record { is_seat = is.is_seat; holds_nothing = held.0; done = held.1 }
