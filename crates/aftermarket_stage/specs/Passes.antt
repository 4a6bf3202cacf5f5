-- The passes of the aftermarket.
use Rattle.std.specs.Prelude.{ℕ, ◌+◌, ◌≡◌, ◌↔◌, List, [], ◌∷◌, length, map, ⊤}
use Rattle.std.specs.List.{flat_map}
use Rattle.budget_draw.specs.AfterOrder.{after_order_of}
use Rattle.demand_api.specs.Crowds.{CrowdData}
use Rattle.aftermarket_stage.specs.Turns.{Terms, TurnData, IsTurn, after_turns, EachTurn, IsQuiet}

-- the pass and the student of a turn
abbrev pub due_of : TurnData → ℕ × ℕ
due_of turn = (turn.pass, turn.student)

-- the pass and the student of each turn that is due in a pass: every student once, by budgets
-- before any raise in the aftermarket's order
abbrev pub due_in : CrowdData → ℕ → List (ℕ × ℕ)
due_in crowd pass =
    map (λ student. (pass, student))
    (after_order_of (map (λ student. student.budget) crowd.students))

-- the turns are those due in the pass, and each is as wanted where it stands
pub record IsPass (Wanted : List (List ℕ) → TurnData → Type 0) (crowd : CrowdData) (pass : ℕ)
    (held : List (List ℕ)) (turns : List TurnData) : Type 0 where
  pub due : map due_of turns ≡ due_in crowd pass
  pub each : EachTurn Wanted held turns

-- passes one after another, the first with this number: a pass is without a change exactly where it
-- is the last
abbrev pub ArePasses : (List (List ℕ) → TurnData → Type 0) → CrowdData → ℕ → List (List ℕ)
    → List (List TurnData) → Type 0
ArePasses Wanted crowd number held [] = ⊤
ArePasses Wanted crowd number held (turns ∷ later) =
    IsPass Wanted crowd number held turns × (EachTurn IsQuiet held turns ↔ (later ≡ []))
    × ArePasses Wanted crowd (number + 1) (after_turns held turns) later

-- turns, each as wanted, in passes from 1 on, so many; there is a pass exactly where there are
-- students
pub record IsMadeOf (Wanted : List (List ℕ) → TurnData → Type 0) (crowd : CrowdData)
    (start : List (List ℕ)) (turns : List TurnData) (passes : ℕ) : Type 0 where
  pub by_pass : List (List TurnData)
  pub whole : ArePasses Wanted crowd 1 start by_pass
  pub some : (by_pass ≡ []) ↔ (crowd.students ≡ [])
  pub joined : flat_map (λ pass. pass) by_pass ≡ turns
  pub number : length by_pass ≡ passes

-- the aftermarket from these bundles: at each turn the student's bundle becomes the best one
abbrev pub IsAftermarket : Terms → List (List ℕ) → List TurnData → ℕ → Type 0
IsAftermarket terms start turns passes = IsMadeOf (IsTurn terms) terms.crowd start turns passes
