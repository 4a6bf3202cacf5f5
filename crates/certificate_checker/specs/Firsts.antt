-- The first of numbered things that is not as it should be.
use Rattle.std.specs.Prelude.{ℕ, ◌<◌}

-- each number below this one has this property
abbrev pub AllBelow : ℕ → (ℕ → Type 0) → Type 0
AllBelow count Is = (n : ℕ) → n < count → Is n

-- the first of so many numbers of which it is not so
pub record FailsFirstAt (count : ℕ) (Is : ℕ → Type 0) (n : ℕ) : Type 0 where
  pub within : n < count
  pub before : AllBelow n Is
  pub fails : ¬ Is n
