-- What a student may choose of the sections' seats, and whether these suffice, where students hold
-- bundles, in file order.
use Rattle.std.specs.Prelude.{ℕ, ◌<◌, ◌≤◌, ◌||◌, Bool, nat_lt, List, [], slice_index, slice_index_or}
use Rattle.market_units.specs.Members.{has}
use Rattle.demand_api.specs.Crowds.{holders}

-- a section is free when fewer students hold it than it has seats
abbrev pub is_free : List ℕ → List (List ℕ) → ℕ → Bool
is_free seats held s = nat_lt (holders s held) (slice_index seats s)

-- a student may choose each section that it holds, and each that is free
abbrev pub may_choose : List ℕ → List (List ℕ) → ℕ → ℕ → Bool
may_choose seats held student s = has (slice_index_or held student []) s || is_free seats held s

-- no section has more holders than seats
abbrev pub AreHeldWithin : ℕ → List ℕ → List (List ℕ) → Type 0
AreHeldWithin sections seats held = (s : ℕ) → s < sections → holders s held ≤ slice_index seats s
