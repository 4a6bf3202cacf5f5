-- Lists of numbers with room of one width.
use Rattle.std.specs.Prelude.{ℕ, List}

pub record Lists : Type 0 where
  pub width : ℕ
  pub lists : List (List ℕ)
