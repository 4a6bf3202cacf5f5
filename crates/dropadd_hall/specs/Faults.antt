-- What stands against a desk that opens with what students hold.
use Rattle.std.specs.Prelude.{ℕ, ◌≡◌, ◌<◌, ◌≤◌}
use Rattle.demand_api.specs.Crowds.{holders}
use Rattle.dropadd_desk.specs.declared.shared.HallState.{HallState}
use Rattle.dropadd_desk.specs.Market.{Market, offered, section_count, student_count}
use Rattle.dropadd_desk.specs.Openings.{IsAllowed}
use Rattle.dropadd_desk.specs.Step.{held_by}
use Rattle.dropadd_hall.specs.declared.opening.OpeningFault.{OpeningFault}
use Rattle.dropadd_hall.specs.declared.opening.OpeningFault.TheVariants.{Infeasible, Overfull}

-- each student may hold what it holds
abbrev pub AreAllowed : Market → HallState → Type 0
AreAllowed market state = (i : ℕ) → i < student_count market → IsAllowed market i (held_by state i)

-- each student may hold what it holds, and no section has more holders than seats
pub record IsFaultless (market : Market) (state : HallState) : Type 0 where
  pub students : AreAllowed market state
  pub seats : (s : ℕ) → s < section_count market → holders s state.held ≤ (offered market s).seats

-- the first student who may not hold what it holds
pub record IsFirstInfeasible (market : Market) (state : HallState) (i : ℕ) : Type 0 where
  pub within : i < student_count market
  pub forbidden : ¬ IsAllowed market i (held_by state i)
  pub before : (j : ℕ) → j < i → IsAllowed market j (held_by state j)

-- where all students may, the first section with more holders than seats, and how many these are
pub record IsFirstOverfull (market : Market) (state : HallState) (s held seats : ℕ) : Type 0 where
  pub students : AreAllowed market state
  pub within : s < section_count market
  pub counted : held ≡ holders s state.held
  pub given : seats ≡ (offered market s).seats
  pub over : seats < held
  pub before : (t : ℕ) → t < s → holders t state.held ≤ (offered market t).seats

abbrev pub IsFirstFault : Market → HallState → OpeningFault → Type 0
IsFirstFault market state (Infeasible student) = IsFirstInfeasible market state student.0
IsFirstFault market state (Overfull section held seats) =
    IsFirstOverfull market state section.0 held seats
