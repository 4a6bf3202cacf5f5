use Rattle.std.proofs.Common.{ℕ, ◌<◌, ◌≤◌}
use Rattle.demand_api.specs.Crowds.{holders}
use Rattle.dropadd_desk.specs.HallView.{market_of, state_of}
use Rattle.dropadd_desk.specs.Market.{offered}
use Rattle.dropadd_desk.specs.Openings.{IsAllowed}
use Rattle.dropadd_desk.specs.Step.{held_by}
use Rattle.dropadd_hall.proofs.opening.opening_fault.Given as goal

-- the students so far may hold what they hold
abbrev pub invariant-students : goal.invariant-students
invariant-students l = (j : ℕ) → j < l.student → IsAllowed (market_of l.desk) j (held_by (state_of l.desk) j)

-- the sections so far have no more holders than seats
abbrev pub invariant-sections : goal.invariant-sections
invariant-sections l = (t : ℕ) → t < l.section → holders t (state_of l.desk).held ≤ (offered (market_of l.desk) t).seats
