-- What is held, as it is kept: how many students hold each section, and which sections are free.
use Rattle.std.specs.Prelude.{ℕ, ◌<◌, ◌≡◌, nat_lt, true, List, All, length, map, slice_index}
use Rattle.std.specs.FinSet as set
use Rattle.market_units.specs.Members.{has}
use Rattle.bundle_rules.specs.Bundles.{sections_of}
use Rattle.demand_api.specs.Counting.{AreCounts}
use Rattle.held_seats.specs.declared.floor.Floor.{Floor}

-- the sections of each bundle are below this number
abbrev pub AreBelow : ℕ → List (List ℕ) → Type 0
AreBelow sections bundles = All (λ bundle. (s : ℕ) → has bundle s ≡ true → s < sections) bundles

-- what each student holds, in file order
abbrev pub held_on : Floor → List (List ℕ)
held_on floor = map sections_of floor.held.items

-- each section's holders are counted, and the free sections are those with fewer holders than seats
pub record IsFloor (seats : List ℕ) (floor : Floor) : Type 0 where
  pub counts : AreCounts (length seats) (held_on floor) floor.used.items
  pub free : (s : ℕ)
      → set.contains floor.free s ≡ nat_lt (slice_index floor.used.items s) (slice_index seats s)
