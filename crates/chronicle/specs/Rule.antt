-- The rule of the table of turns, which holds between any two steps. Word 0 is the ticket that is
-- served, word 1 the next ticket to be drawn, and the one slot holds the object with its journal.
use Rattle.std.specs.Prelude.{◌≡◌, ◌≢◌, ℕ, ◌+◌, ◌^◌, ◌<◌, ◌≤◌, Bool, Option, Some, List, [], ◌∷◌, length, ◌⊎◌}
use Rattle.std.specs.Vec.{vec_capacity}
use mathlib.Core.Option.{some, none}
use lib.ListN.{get_elem?}
use Rattle.atomic_table.specs.Table.{State}
use Rattle.market_units.specs.Beginnings.{BeginsWith}
use Rattle.market_units.specs.Totals.{total}
use Rattle.chronicle.specs.declared.journal.StepOf.{StepOf}
use Rattle.chronicle.specs.declared.kept.Kept.{Kept}
use Rattle.chronicle.specs.declared.view.View.{View}
use Rattle.chronicle.specs.declared.view.Phase.TheVariants as phase
use Rattle.chronicle.specs.History.{state_after, IsLegal, calls_by}
use Rattle.std.specs.List.{AllByRecursion as Each}
use Rattle.chronicle.specs.Members.{IsIn}
use Rattle.chronicle.specs.Views.{sum_of, numbers, left_of}

module _ {B S Q A : Type 0} where
  -- the view has this ticket
  abbrev pub HasTicket : View B S Q A → ℕ → Type 0
  HasTicket v ticket = (v.phase ≡ phase.Waits ticket) ⊎ (v.phase ≡ phase.InTurn ticket)

  -- no view is in turn
  abbrev pub NobodyInTurn : List (Option (View B S Q A)) → Type 0
  NobodyInTurn views =
      (j : ℕ) (v : View B S Q A) (ticket : ℕ) → get_elem? views j ≡ some (Some v)
      → v.phase ≢ phase.InTurn ticket

  -- What the rule says of the view that stands at j. The view of `holder t` has the ticket t, and
  -- the number n stands in the view of `home n`
  pub record Fits (base : B) (opening : S) (allotments : List ℕ) (history : List (StepOf Q A))
      (tickets made : ℕ) (holder home : ℕ → ℕ) (j : ℕ) (v : View B S Q A) : Type 0 where
    pub same : (v.base ≡ base) × (v.opening ≡ opening) × (v.allotments ≡ allotments)
    -- what it has seen, and what it noted that others had seen, begins the history
    pub begins : BeginsWith history v.seen × Each (BeginsWith history) v.noted
    -- its own calls, and those that it noted, are all that the history has of their numbers
    pub calls : (calls_by v.number history ≡ v.own)
        × Each (λ (x : ℕ × List (StepOf Q A)). calls_by x.0 history ≡ x.1) v.joined
    -- its numbers were made, and stand in no other view
    pub numbered : (n : ℕ) → IsIn n (numbers v) → (n < made) × (home n ≡ j)
    -- with joined numbers it makes no call
    pub joined_idle : v.joined ≢ [] → v.phase ≡ phase.Idle
    -- a ticket that it waits with is not yet served, and is its own
    pub waits : (t : ℕ) → v.phase ≡ phase.Waits t
        → (length history ≤ t) × (t < tickets) × (holder t ≡ j)
    -- one that it is in turn with is served, and it has seen the whole history
    pub turn : (t : ℕ) → v.phase ≡ phase.InTurn t
        → (t ≡ length history) × (t < tickets) × (holder t ≡ j) × (v.seen ≡ history)
    -- seats that are still to be split off come from the first
    pub deals : v.plan ≢ []
        → (v.number ≡ 0) × (v.made ≡ made) × (made + length v.plan ≡ length allotments)
        × (sum_of v.plan ≤ v.left)

module _ {T B S Q A : Type 0} (base_of : T → B) (state_of : T → S) (room : T → ℕ) (sound : B → Q → Bool) (after : B → S → ℕ → Q → S) (reply : B → S → ℕ → Q → A) where
  -- the object after the history, with the history, and with room for all calls that are left
  pub record IsAfter (base : B) (opening : S) (allotments : List ℕ) (history : List (StepOf Q A))
      (kept : Kept T Q A) : Type 0 where
    pub same_base : base_of kept.object ≡ base
    pub last : state_of kept.object ≡ state_after after base opening history
    pub journal : kept.journal.items ≡ history
    pub roomy : sum_of allotments ≤ length history + room kept.object
    pub reserved : sum_of allotments ≤ vec_capacity kept.journal

  pub record Keeps (s : State (Kept T Q A) (Option (View B S Q A))) : Type 0 where
    pub base : B
    pub opening : S
    pub history : List (StepOf Q A)
    pub tickets : ℕ
    pub allotments : List ℕ
    pub made : ℕ
    pub holder : ℕ → ℕ
    pub home : ℕ → ℕ
    pub words : s.words ≡ length history ∷ tickets ∷ []
    pub one_slot : length s.homes ≡ 1
    pub legal : IsLegal sound after reply base opening history
    -- a number that was not made has no step
    pub entries : Each (λ (step : StepOf Q A). step.seat < made) history
    pub made_few : made ≤ length allotments
    -- the tickets drawn, and the calls that are left, are the allotments
    pub balance : tickets + total left_of s.views ≡ sum_of allotments
    pub small : sum_of allotments < 2 ^ 64
    pub drawn : length history ≤ tickets
    pub fits : (j : ℕ) (v : View B S Q A) → get_elem? s.views j ≡ some (Some v)
        → Fits base opening allotments history tickets made holder home j v
    -- each ticket that was drawn and not passed on is some view's
    pub held : (t : ℕ) → length history ≤ t → t < tickets
        → (v : View B S Q A) × (get_elem? s.views (holder t) ≡ some (Some v)) × HasTicket v t
    -- each number that was made stands in some view
    pub stands : (n : ℕ) → n < made
        → (v : View B S Q A) × (get_elem? s.views (home n) ≡ some (Some v)) × IsIn n (numbers v)
    -- while no view is in turn the slot has the object after the history
    pub at_home : NobodyInTurn s.views
        → (kept : Kept T Q A) × (get_elem? s.homes 0 ≡ some (some kept))
        × IsAfter base opening allotments history kept
    -- while a view is in turn the slot is out
    pub out : (j : ℕ) (v : View B S Q A) (t : ℕ) → get_elem? s.views j ≡ some (Some v)
        → v.phase ≡ phase.InTurn t → get_elem? s.homes 0 ≡ some none
