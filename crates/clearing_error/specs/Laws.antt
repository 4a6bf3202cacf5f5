-- The laws of the clearing error.
use Rattle.std.specs.Prelude.{ℕ, ◌≤◌, ◌≡◌, List, map, min}
use Rattle.market_units.specs.declared.units.Tokens.{Tokens}
use Rattle.clearing_error.specs.Errors.{error}

-- prices that are the same up to some price of at least 1 have the same error
abbrev pub ErrorByTop : Type 0
ErrorByTop =
    (counts seats : List ℕ) (one other : List Tokens) (top : ℕ) → 1 ≤ top
    → map (λ price. min price.0 top) one ≡ map (λ price. min price.0 top) other
    → error counts seats one ≡ error counts seats other
