-- What a state of a desk is, and the state in which it opens.
use Rattle.std.specs.Prelude.{ℕ, ◌≡◌, ◌<◌, ◌≤◌, ◌==◌, true, false, if◌then◌else◌, List, All, [], length, replicate}
use Rattle.market_units.specs.Totals.{total}
use Rattle.market_units.specs.Members.{has}
use Rattle.bundle_rules.specs.Sets.{IsAscending}
use Rattle.held_seats.specs.Floors.{AreBelow}
use Rattle.dropadd_desk.specs.declared.shared.HallState.{HallState}
use Rattle.dropadd_desk.specs.Market.{Market, section_count, student_count}
use Rattle.dropadd_desk.specs.Step.{held_by, waiting_for}

-- how often a number stands in a list
abbrev pub times : ℕ → List ℕ → ℕ
times n list = total (λ m. if m == n then 1 else 0) list

-- a list of students, none of them twice
pub record IsQueue (students : ℕ) (list : List ℕ) : Type 0 where
  pub once : (i : ℕ) → times i list ≤ 1
  pub within : (i : ℕ) → has list i ≡ true → i < students

-- a set of the market's sections for each student, in ascending order, and a list of its students
-- for each section, none of whom holds it
pub record IsHall (market : Market) (state : HallState) : Type 0 where
  pub each_student : length state.held ≡ student_count market
  pub within : AreBelow (section_count market) state.held
  pub ascending : All IsAscending state.held
  pub each_section : length state.waiting ≡ section_count market
  pub queues : (s : ℕ) → IsQueue (student_count market) (waiting_for state s)
  pub apart : (i s : ℕ) → has (waiting_for state s) i ≡ true → has (held_by state i) s ≡ false

-- the students hold these, in file order, and nobody waits
abbrev pub opening : Market → List (List ℕ) → HallState
opening market bundles = record { held = bundles; waiting = replicate (section_count market) [] }
