-- How many students may be asked.
use Rattle.std.specs.Prelude.{ℕ, ◌≤◌, ◌+◌, ◌-◌, ◌^◌, min}

-- The count of those asked, which is a u64, did not fall. What it rose by was taken from those who
-- may be asked, but for so many, and no more is left than was
pub record HasSpent (besides left left_then before now : ℕ) : Type 0 where
  pub kept : min before (2 ^ 64 - 1) ≤ now
  pub paid : now + left_then ≤ before + left + besides
  pub less : left_then ≤ left
