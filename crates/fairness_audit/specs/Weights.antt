-- A bound on what is seen in a bundle.
use Rattle.std.specs.Prelude.{ℕ, zero, suc, ℤ, pos, ◌+◌, ◌-◌, ◌+ℤ◌, ◌≤ℤ◌, List, ◌∷◌, length, slice_index}
use Rattle.bundle_bounds.specs.Opens.{above_zero}
use Rattle.bundle_rules.specs.Menus.{MenuData, adjustment_in, rating_at}
use Rattle.bundle_rules.specs.Sets.{IsAscending}
use Rattle.bundle_rules.specs.Wishes.{AllRated, Wishes, adjustments}

-- those of the adjustments at so many numbers from a first one on that are not negative, added up
abbrev pub gains : (ℕ → ℤ) → ℕ → ℕ → ℕ
gains f first zero = 0
gains f first (suc count) = above_zero (f first) + gains f (first + 1) count

-- the rating of a place, and what its adjustments with the later places can add
abbrev pub weight_at : MenuData → ℕ → ℕ
weight_at menu place =
    rating_at menu.places place
    + gains (adjustment_in menu.pairs place) (place + 1) (length menu.places - (place + 1))

-- for each rated section a number that is at least its rating plus its adjustments with any rated
-- sections above it
abbrev pub AreWeights : Wishes → List ℕ → Type 0
AreWeights wishes weights =
    (s : ℕ) (later : List ℕ) → IsAscending (s ∷ later) → AllRated wishes (s ∷ later)
    → (pos (wishes.rating s) +ℤ adjustments wishes s later) ≤ℤ pos (slice_index weights s)
