-- Which of two bundles a student prefers. No price occurs in it.
use Rattle.std.specs.Prelude.{ℕ, ◌<ℤ◌, ◌≡◌, ◌⊎◌, List}
use Rattle.bundle_rules.specs.Sets.{DiffersFirstIn}
use Rattle.bundle_rules.specs.Wishes.{Wishes, utility}

-- a has the greater utility, or the same and the lowest section on which they differ
abbrev pub IsPreferred : Wishes → List ℕ → List ℕ → Type 0
IsPreferred wishes a b =
    (utility wishes b <ℤ utility wishes a)
    ⊎ ((utility wishes a ≡ utility wishes b) × DiffersFirstIn a b)
