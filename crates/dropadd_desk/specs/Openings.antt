-- States in which a desk may open.
use Rattle.std.specs.Prelude.{ℕ, ◌≡◌, ◌<◌, ◌≤◌, true, false, List, [], length}
use Rattle.market_units.specs.Members.{has}
use Rattle.course_catalog.specs.Sections.{sections_clash}
use Rattle.demand_api.specs.Crowds.{holders}
use Rattle.dropadd_desk.specs.declared.shared.HallState.{HallState}
use Rattle.dropadd_desk.specs.Market.{Market, enrolled, offered, section_count, student_count}
use Rattle.dropadd_desk.specs.Fits.{credits_of}
use Rattle.dropadd_desk.specs.Step.{held_by, waiting_for}

-- a set of sections of which no two clash, within the student's caps
pub record IsAllowed (market : Market) (i : ℕ) (set : List ℕ) : Type 0 where
  pub apart : (s t : ℕ) → has set s ≡ true → has set t ≡ true
      → sections_clash market.catalog.sections s t ≡ false
  pub credits : credits_of market set ≤ (enrolled market i).credits
  pub courses : length set ≤ (enrolled market i).courses

-- each student holds such a set, no section has more holders than seats, and nobody waits
pub record IsLawful (market : Market) (state : HallState) : Type 0 where
  pub students : (i : ℕ) → i < student_count market → IsAllowed market i (held_by state i)
  pub seats : (s : ℕ) → s < section_count market → holders s state.held ≤ (offered market s).seats
  pub nobody : (s : ℕ) → waiting_for state s ≡ []
