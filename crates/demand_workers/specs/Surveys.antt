-- Whom what is remembered settles at some versions, and who is asked.
use Rattle.std.specs.Prelude.{ℕ, ◌<◌, ◌≤◌, ◌≡◌, ◌≢◌, Bool, false, IsTrue, List, [], None, length}
use Rattle.std.specs.Prelude.{slice_index_or}
use Rattle.std.specs.List.{All}
use Rattle.market_units.specs.declared.units.Tokens.{Tokens}
use Rattle.bundle_rules.specs.declared.bundle.Bundle.{Bundle}
use Rattle.demand_api.specs.Crowds.{CrowdData}
use Rattle.demand_workers.specs.declared.cheaper.Cheaper.{Cheaper}
use Rattle.price_board.specs.declared.round.Task.{Task}
use Rattle.price_board.specs.Tasks.{no_task}
use Rattle.price_board.specs.Tasks.{IsTask}
use Rattle.demand_workers.specs.Remembered.{FellWithin, IsKept}

-- each says, of the version of its place, where the sections stand that became cheaper
abbrev pub AreEachWithin : List Tokens → List (List Tokens) → List Cheaper → Type 0
AreEachWithin before versions cheaper =
    (v : ℕ) (d : Cheaper) → v < length cheaper
    → FellWithin (slice_index_or cheaper v d).first (slice_index_or cheaper v d).past before
    (slice_index_or versions v [])

-- each version whose place in the student's row says true is one at whose prices the student takes
-- what is remembered
abbrev pub IsSettledRow : CrowdData → List Bundle → List (List Tokens) → ℕ → List Bool → Type 0
IsSettledRow crowd bundles versions student row =
    (v : ℕ) → v < length versions → IsTrue (slice_index_or row v false)
    → IsKept crowd (slice_index_or versions v []) bundles student

-- so it is with each student's row
abbrev pub AreSettledRows : CrowdData → List Bundle → List (List Tokens) → List (List Bool)
    → Type 0
AreSettledRows crowd bundles versions rows =
    (student : ℕ) (d : List Bool) → student < length rows
    → IsSettledRow crowd bundles versions student (slice_index_or rows student d)

-- from this place on the student is not asked at the version
abbrev pub IsLeftOut : ℕ → ℕ → ℕ → List Task → Type 0
IsLeftOut from version student inquiries =
    (k : ℕ) → from ≤ k → k < length inquiries
    → (slice_index_or inquiries k no_task).version ≡ version
    → (slice_index_or inquiries k no_task).student.0 ≢ student

-- who is not asked at the version, which has these prices, takes what is remembered
abbrev pub AreOthersKept : CrowdData → List Bundle → List Tokens → ℕ → List Task → Type 0
AreOthersKept crowd bundles prices version inquiries =
    (student : ℕ) → student < length bundles → IsLeftOut 0 version student inquiries
    → IsKept crowd prices bundles student

-- inquiries at versions as they are; who is not asked at one of the first so many versions takes
-- there what is remembered
pub record IsSurvey (crowd : CrowdData) (bundles : List Bundle) (versions : List (List Tokens))
    (n : ℕ) (inquiries : List Task) : Type 0 where
  pub asked : All (IsTask crowd (length versions)) inquiries
  pub plain : All (λ inquiry. inquiry.raised ≡ None) inquiries
  pub others : (v : ℕ) → v < n
      → AreOthersKept crowd bundles (slice_index_or versions v []) v inquiries
