-- What the parts of a slice say of their elements. A part stands at a place of the slice, which is
-- the place of its first element.
use Rattle.std.specs.Prelude.{◌≡◌, ℕ, ◌+◌, ◌^◌, ◌<◌, List, length, slice_index_or}

-- each element of a part that stands at this place is accepted with its own place, and also the
-- place behind the last one is below 2^64
pub record AcceptsFrom {X : Type 0} (accepts : ℕ → X → Type 0) (base : ℕ)
    (xs : List X) : Type 0 where
  pub room : base + length xs < 2 ^ 64
  pub each : (k : ℕ) (d : X) → k < length xs → accepts (base + k) (slice_index_or xs k d)

-- the part has as many elements as before, and each, at its own place, may be changed to what
-- stands there afterwards
pub record ChangesFrom {X : Type 0} (changes : ℕ → X → X → Type 0) (base : ℕ)
    (xs ys : List X) : Type 0 where
  pub len : length ys ≡ length xs
  pub each : (k : ℕ) (d : X) → k < length xs
      → changes (base + k) (slice_index_or xs k d) (slice_index_or ys k d)
