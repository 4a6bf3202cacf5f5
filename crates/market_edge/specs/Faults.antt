-- Counts of faults. A count never falls, and stands still at the greatest `u64`.
use Rattle.std.specs.Prelude.{ℕ, ◌≤◌}
use Rattle.market_units.specs.Counts.{one_more}

-- the count rose, or stands at its greatest value
abbrev pub Rose : ℕ → ℕ → Type 0
Rose before now = one_more before ≤ now
