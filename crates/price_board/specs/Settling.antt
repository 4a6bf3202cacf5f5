-- When the posted bundles of a version decide what is asked of it. A row has what was posted for
-- each student.
use Rattle.std.specs.Prelude.{ℕ, ◌+◌, ◌==◌, ◌||◌, Bool, false, Option, Some, None, is_none, List, slice_index_or, nat_lt, nat_le}
use Rattle.std.specs.List.{count_by}
use Rattle.bundle_rules.specs.declared.bundle.Bundle.{Bundle}
use Rattle.bundle_rules.specs.Bundles.{sections_of}
use Rattle.market_units.specs.Members.{has}
use Rattle.price_board.specs.declared.round.Ask.{Ask}
use Rattle.price_board.specs.declared.round.Ask.TheVariants.{Counts, Exceeds}

-- a bundle with the section was posted
abbrev pub is_with : ℕ → Option Bundle → Bool
is_with section None = false
is_with section (Some bundle) = has (sections_of bundle) section

-- a bundle with the section that is asked of was posted
abbrev pub is_asked : Ask → Option Bundle → Bool
is_asked Counts bundle = false
is_asked (Exceeds section limit) bundle = is_with section.0 bundle

-- for how many students none was posted
abbrev pub unfilled_in : List (Option Bundle) → ℕ
unfilled_in row = count_by is_none row

-- how many posted bundles have the section that is asked of
abbrev pub count_for : Ask → List (Option Bundle) → ℕ
count_for ask row = count_by (is_asked ask) row

-- so many students of whom none was posted, and so many posted bundles with the section, decide it:
-- all are posted; or more than the limit have the section, or no more than the limit can have it
abbrev pub is_decided : Ask → ℕ → ℕ → Bool
is_decided Counts unfilled count = unfilled == 0
is_decided (Exceeds section limit) unfilled count =
    nat_lt limit count || nat_le (count + unfilled) limit

-- the row decides it
abbrev pub is_settled : Ask → List (Option Bundle) → Bool
is_settled ask row = is_decided ask (unfilled_in row) (count_for ask row)

-- what is asked of a version
abbrev pub ask_of : List Ask → ℕ → Ask
ask_of asks version = slice_index_or asks version Counts
