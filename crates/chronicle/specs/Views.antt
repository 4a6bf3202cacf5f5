-- How the view of a seat changes. A spent seat has no view.
use Rattle.std.specs.Prelude.{ℕ, ◌+◌, ◌-◌, Option, Some, None, List, [], ◌∷◌, ◌++◌, length, map, nat_lt, if◌then◌else◌}
use Rattle.market_units.specs.Totals.{total}
use Rattle.chronicle.specs.declared.journal.StepOf.{StepOf}
use Rattle.chronicle.specs.declared.view.View.{View}
use Rattle.chronicle.specs.declared.view.Phase.TheVariants as phase

-- the numbers, added up
abbrev pub sum_of : List ℕ → ℕ
sum_of ns = total (λ n. n) ns

abbrev pub first_of : List ℕ → ℕ
first_of [] = 0
first_of (n ∷ ns) = n

abbrev pub rest_of : List ℕ → List ℕ
rest_of [] = []
rest_of (n ∷ ns) = ns

-- the longer of two lists
abbrev pub longer : {X : Type 0} → List X → List X → List X
longer xs ys = if nat_lt (length xs) (length ys) then ys else xs

module _ {B S Q A : Type 0} where
  -- a seat that has seen nothing
  abbrev pub fresh : B → S → List ℕ → ℕ → ℕ → ℕ → List ℕ → View B S Q A
  fresh base opening allotments number left made plan = record {
    marker = record {};
    base = base;
    opening = opening;
    allotments = allotments;
    number = number;
    left = left;
    phase = phase.Idle;
    seen = [];
    own = [];
    made = made;
    plan = plan;
    joined = [];
    noted = [];
  }

  -- the first seat, before the others are split off
  abbrev pub first_view : B → S → List ℕ → Option (View B S Q A)
  first_view base opening allotments =
      Some (fresh base opening allotments 0 (sum_of allotments) 1 (rest_of allotments))

  -- what is left of a seat from which the next was split off
  abbrev pub dealt : View B S Q A → View B S Q A
  dealt v = record v { left = v.left - first_of v.plan; made = v.made + 1; plan = rest_of v.plan }

  -- the seat that was split off
  abbrev pub dealt_seat : View B S Q A → View B S Q A
  dealt_seat v = fresh v.base v.opening v.allotments v.made (first_of v.plan) 0 []

  abbrev pub split_left : Option (View B S Q A) → Option (View B S Q A)
  split_left None = None
  split_left (Some v) = Some (dealt v)

  abbrev pub split_right : Option (View B S Q A) → Option (View B S Q A)
  split_right None = None
  split_right (Some v) = Some (dealt_seat v)

  -- a seat that joined another: it has the longer list and what the other had left, and it notes
  -- both lists, the other's number with its calls, and what the other had noted
  abbrev pub with_seat : View B S Q A → View B S Q A → View B S Q A
  with_seat v w = record v {
    left = v.left + w.left;
    seen = longer v.seen w.seen;
    joined = v.joined ++ (w.number, w.own) ∷ w.joined;
    noted = v.noted ++ v.seen ∷ w.seen ∷ w.noted;
  }

  abbrev pub joined : Option (View B S Q A) → Option (View B S Q A) → Option (View B S Q A)
  joined None w = w
  joined (Some v) None = Some v
  joined (Some v) (Some w) = Some (with_seat v w)

  -- the numbers that stand in a view: its own, and those of the seats that it joined
  abbrev pub numbers : View B S Q A → List ℕ
  numbers v = v.number ∷ map (λ (x : ℕ × List (StepOf Q A)). x.0) v.joined

  -- what a seat has left of its allotment
  abbrev pub left_of : Option (View B S Q A) → ℕ
  left_of None = 0
  left_of (Some v) = v.left

  -- what it has seen
  abbrev pub seen_of : Option (View B S Q A) → List (StepOf Q A)
  seen_of None = []
  seen_of (Some v) = v.seen

  -- its own calls
  abbrev pub own_of : Option (View B S Q A) → List (StepOf Q A)
  own_of None = []
  own_of (Some v) = v.own

  -- it drew this ticket
  abbrev pub waiting : View B S Q A → ℕ → View B S Q A
  waiting v ticket = record v { left = v.left - 1; phase = phase.Waits ticket }

  -- its ticket is served, and it sees the whole history
  abbrev pub in_turn : View B S Q A → ℕ → List (StepOf Q A) → View B S Q A
  in_turn v ticket history = record v { phase = phase.InTurn ticket; seen = history }

  -- it made a call
  abbrev pub done : View B S Q A → StepOf Q A → View B S Q A
  done v step =
      record v { phase = phase.Idle; seen = v.seen ++ step ∷ []; own = v.own ++ step ∷ [] }
