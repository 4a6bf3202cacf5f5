-- What a draw and a post make of a seat.
use Rattle.std.specs.Prelude.{ℕ, ◌≡◌, ◌++◌, ◌↔◌, Option, Some, None, [], ◌∷◌}
use Rattle.chronicle.specs.History.{step_of, Extends}
use Rattle.task_board.specs.declared.calls.Call.TheVariants.{Draw, Post}
use Rattle.task_board.specs.declared.calls.Posted.{Posted}
use Rattle.task_board.specs.declared.calls.Posted.TheVariants.{NotYours}
use Rattle.task_board.specs.declared.calls.Reply.TheVariants.{Draw as Drew, Post as Answered}
use Rattle.task_board.specs.Rules.{Rules}
use Rattle.task_board.specs.Seats.{BoardOf, SeatOf, marks_before_last, dones, Holds, HoldsNothing, HoldsOnly, IsSeatOf, IsFree, IsHolding, IsFinished}
use Rattle.task_board.specs.Steps.{first_left, post_answer}

module _ {B A : Type 0} (rules : Rules B A) (board : BoardOf B A) where
  -- what the seat holds after a draw
  abbrev pub HoldsDrawn : Option ℕ → SeatOf B A → Type 0
  HoldsDrawn None seat = HoldsNothing rules board seat × (dones seat.own ≡ 1)
  HoldsDrawn (Some task) seat = HoldsOnly rules board task seat × (dones seat.own ≡ 0)

  -- the worker after a draw
  abbrev pub AfterDraw : Option ℕ → SeatOf B A → Type 0
  AfterDraw None seat = IsFinished rules board seat
  AfterDraw (Some task) seat = IsHolding rules board task seat

  -- a draw gave the first task that was left, or told that there was none
  pub record HasDrawn (old : SeatOf B A) (task : Option ℕ) (new : SeatOf B A) : Type 0 where
    pub seat : IsSeatOf rules board new
    pub answer : task ≡ first_left rules board.base (marks_before_last rules board new)
    pub holds : HoldsDrawn task new
    pub turn : IsFree rules board old → AfterDraw task new
    pub seen : Extends old.seen new.seen (step_of old.number Draw (Drew task))
    pub own : new.own ≡ old.own ++ step_of old.number Draw (Drew task) ∷ []
    pub number : new.number ≡ old.number

  -- A post was answered so: `NotYours` exactly where the seat did not hold the task, and then it
  -- holds what it held; else it holds the others of these
  pub record HasPosted (old : SeatOf B A) (task : ℕ) (answer : A) (said : Posted)
      (new : SeatOf B A) : Type 0 where
    pub seat : IsSeatOf rules board new
    pub answered : said
        ≡ post_answer rules board.base (marks_before_last rules board new) old.number task
    pub not_yours : (said ≡ NotYours) ↔ (¬ Holds rules board old task)
    pub holds : (other : ℕ) → Holds rules board new other
        ↔ (Holds rules board old other × (¬ (other ≡ task)))
    pub turn : IsHolding rules board task old → IsFree rules board new
    pub seen : Extends old.seen new.seen (step_of old.number (Post task answer) (Answered said))
    pub own : new.own ≡ old.own ++ step_of old.number (Post task answer) (Answered said) ∷ []
    pub number : new.number ≡ old.number
