-- What one student's ratings are seen as.
use Rattle.std.specs.Prelude.{ℕ, map}
use Rattle.std.specs.Ordering.{nat_cmp}
use Rattle.std.specs.FinMap.{FinMap, from_sorted}
use Rattle.preference_desk.specs.declared.ratings.Ratings.{Ratings}
use Rattle.preference_desk.specs.Rows.{rating_entry}

-- the finite map of the ratings
abbrev pub ratings_in : Ratings → FinMap {K = ℕ} nat_cmp ℕ
ratings_in ratings = from_sorted (map rating_entry ratings.items.items)
