-- Marks after one of them changes.
use Rattle.std.proofs.Common.{ℕ, ◌≡◌, ◌≢◌, ◌<◌, ◌∙◌, ◌⊎◌, true, false, List, length, None, Option, refl, sym, ap, slice_index_or, slice_set, inl, inr}
use Rattle.std.proofs.lemmas.Bool.{cases_eq, cases_lt, eqb-true, eq-eqb, false≢true, true≢false}
use Rattle.std.proofs.lemmas.List.{get_or-map, get_or_past, get_or-set_same, get_or-set_other, map-set, set-get_or}
use Rattle.task_board.specs.declared.mark.Mark.{Mark}
use Rattle.task_board.specs.declared.mark.Mark.TheVariants.{Open, Held, Filled, Spent}
use Rattle.task_board.specs.Marks.{mark_at, is_open, is_held_by, answer_in, answers_in}

module _ {A : Type 0} where
  pub mark-same : (marks : List (Mark A)) (task : ℕ) (mark : Mark A) → task < length marks → mark_at (slice_set marks task mark) task ≡ mark
  mark-same marks task mark below = get_or-set_same marks task mark Open below

  -- where each task stands after the change of one
  pub mark-set : (marks : List (Mark A)) (task other : ℕ) (mark : Mark A) → task < length marks
      → ((other ≡ task) × (mark_at (slice_set marks task mark) other ≡ mark))
      ⊎ ((other ≢ task) × (mark_at (slice_set marks task mark) other ≡ mark_at marks other))
  mark-set marks task other mark below = elim (cases_eq other task) [
    | inl same ↦ inl (same, ap (mark_at (slice_set marks task mark)) same ∙ mark-same marks task mark below)
    | inr apart ↦ inr (apart, get_or-set_other marks task other mark Open apart)
  ]

  pub answers-set : (marks : List (Mark A)) (task : ℕ) (mark : Mark A)
      → answers_in (slice_set marks task mark) ≡ slice_set (answers_in marks) task (answer_in mark)
  answers-set marks task mark = map-set answer_in marks task mark

  pub answer-at : (marks : List (Mark A)) (task : ℕ) (d : Option A) → task < length marks
      → slice_index_or (answers_in marks) task d ≡ answer_in (mark_at marks task)
  answer-at marks task d below = get_or-map answer_in marks task Open d below

  -- a change that posts nothing
  pub answers-kept : (marks : List (Mark A)) (task : ℕ) (mark : Mark A) → task < length marks → answer_in mark ≡ answer_in (mark_at marks task)
      → answers_in (slice_set marks task mark) ≡ answers_in marks
  answers-kept marks task mark below same =
      answers-set marks task mark ∙ ap (slice_set (answers_in marks) task) (same ∙ sym (answer-at marks task None below))
      ∙ set-get_or (answers_in marks) task None

  -- past the last mark nothing is drawn
  pub closed_below : (marks : List (Mark A)) (task : ℕ) → is_open (mark_at marks task) ≡ false → task < length marks
  closed_below marks task closed = elim (cases_lt task (length marks)) [
    | inl below ↦ below
    | inr past ↦ absurd (true≢false (sym (ap is_open (get_or_past marks task Open past)) ∙ closed))
  ]

  pub held_is : (seat : ℕ) (mark : Mark A) → is_held_by seat mark ≡ true → mark ≡ Held seat
  held_is seat Open held = absurd (false≢true held)
  held_is seat (Held other) held = ap Held (eqb-true other seat held)
  held_is seat (Filled other answer) held = absurd (false≢true held)
  held_is seat (Spent other) held = absurd (false≢true held)

  pub is_held : (seat : ℕ) (mark : Mark A) → mark ≡ Held seat → is_held_by seat mark ≡ true
  is_held seat mark is = ap (is_held_by seat) is ∙ eq-eqb seat seat refl

  pub open_is : (mark : Mark A) → is_open mark ≡ true → mark ≡ Open
  open_is Open opened = refl
  open_is (Held seat) opened = absurd (false≢true opened)
  open_is (Filled seat answer) opened = absurd (false≢true opened)
  open_is (Spent seat) opened = absurd (false≢true opened)
