-- What seats tell.
use Rattle.std.specs.Prelude.{◌≡◌, ℕ, ◌+◌, ◌<◌, Option, Some, None, List, [], ◌∷◌, drop, ◌⊎◌}
use Rattle.std.specs.List.{AllByRecursion as Each}
use Rattle.atomic_table.specs.Table.{Me}
use Rattle.atomic_table.specs.Seated.{TableId}
use Rattle.chronicle.specs.declared.journal.StepOf.{StepOf}
use Rattle.chronicle.specs.declared.kept.Kept.{Kept}
use Rattle.chronicle.specs.declared.origin.Origin.{Origin}
use Rattle.chronicle.specs.declared.standing.Standing.{Standing}
use Rattle.chronicle.specs.declared.view.View.{View}
use Rattle.chronicle.specs.declared.view.Phase.TheVariants as phase
use Rattle.chronicle.specs.History.{calls_by}
use Rattle.chronicle.specs.Members.{IsIn}
use Rattle.chronicle.specs.Views.{left_of, seen_of, own_of, first_of, sum_of}

module _ {B S : Type 0} where
  abbrev pub origin : TableId → B → S → List ℕ → Origin B S
  origin table base opening allotments =
      record {
        marker = record {};
        table = table;
        base = base;
        opening = opening;
        allotments = allotments;
      }

module _ {B S Q A : Type 0} where
  abbrev pub standing : Option (Origin B S) → ℕ → ℕ → List (StepOf Q A) → List (StepOf Q A)
      → Standing B S Q A
  standing chronicle number left seen own =
      record {
        marker = record {};
        chronicle = chronicle;
        number = number;
        left = left;
        seen = seen;
        own = own;
      }

  -- the seats of these allotments, numbered from n on, which have seen nothing
  abbrev pub new_seats : Origin B S → ℕ → List ℕ → List (Standing B S Q A)
  new_seats chronicle n [] = []
  new_seats chronicle n (left ∷ more) =
      standing (Some chronicle) n left [] [] ∷ new_seats chronicle (n + 1) more

  -- the chronicle of a seat with this view at this table
  abbrev pub origin_of : TableId → Option (View B S Q A) → Option (Origin B S)
  origin_of table None = None
  origin_of table (Some v) = Some (origin table v.base v.opening v.allotments)

  -- what a seat with this view at this table tells
  abbrev pub standing_of : TableId → ℕ → Option (View B S Q A) → Standing B S Q A
  standing_of table number view =
      standing (origin_of table view) number (left_of view) (seen_of view) (own_of view)

  -- what a view knows of a seat that it was or that it joined: its calls, which are all that it had
  -- seen of itself, and what it had seen
  pub record Knows (view : View B S Q A) (seat : Standing B S Q A) : Type 0 where
    pub own : ((view.number ≡ seat.number) × (view.own ≡ seat.own))
        ⊎ IsIn (seat.number, seat.own) view.joined
    pub seen : (view.seen ≡ seat.seen) ⊎ IsIn seat.seen view.noted
    pub all_own : calls_by seat.number seat.seen ≡ seat.own

module _ {T B S Q A : Type 0} where
  -- a seat that makes no call and has joined no other; its own calls are all that it has seen of
  -- itself
  pub record IsAtRest (number : ℕ) (me : Me (Kept T Q A) (Option (View B S Q A))) : Type 0 where
    pub view : View B S Q A
    pub is : me ≡ (Some view, [])
    pub numbered : (view.number ≡ number) × (number < 65535)
    pub idle : view.phase ≡ phase.Idle
    pub alone : (view.joined ≡ []) × (view.noted ≡ []) × (view.plan ≡ [])
    pub all_own : calls_by view.number view.seen ≡ view.own

  -- The first seat, when the seats with numbers below this one were made: it has not called, and
  -- has the allotments of all that are still to come beside its own
  pub record IsDealing (chronicle : Origin B S) (made : ℕ)
      (me : Me (Kept T Q A) (Option (View B S Q A))) : Type 0 where
    pub view : View B S Q A
    pub is : me ≡ (Some view, [])
    pub same_base : view.base ≡ chronicle.base
    pub same_opening : view.opening ≡ chronicle.opening
    pub same_allotments : view.allotments ≡ chronicle.allotments
    pub first : view.number ≡ 0
    pub idle : view.phase ≡ phase.Idle
    pub alone : (view.joined ≡ []) × (view.noted ≡ [])
    pub nothing_seen : (view.seen ≡ []) × (view.own ≡ [])
    pub made_is : view.made ≡ made
    pub plan_is : view.plan ≡ drop made chronicle.allotments
    pub left_is : view.left ≡ first_of chronicle.allotments + sum_of view.plan

  -- a seat that makes no call, and has joined these
  pub record HasJoined (chronicle : Origin B S) (seats : List (Standing B S Q A))
      (me : Me (Kept T Q A) (Option (View B S Q A))) : Type 0 where
    pub view : View B S Q A
    pub is : me ≡ (Some view, [])
    pub same_base : view.base ≡ chronicle.base
    pub same_opening : view.opening ≡ chronicle.opening
    pub same_allotments : view.allotments ≡ chronicle.allotments
    pub idle : view.phase ≡ phase.Idle
    pub dealt : view.plan ≡ []
    pub knows : Each (Knows view) seats
