-- How far counts are from the seats, at given prices: three lists of one length, with an item for
-- each section.
use Rattle.std.specs.Prelude.{ℕ, ◌+◌, ◌-◌, ◌*◌, ℤ, pos, ◌-ℤ◌, nat_abs, nat_lt, if◌then◌else◌, List, [], ◌∷◌}
use Rattle.market_units.specs.declared.units.Tokens.{Tokens}

-- the count minus the seats: below 0 where seats are free
abbrev pub excess : ℕ → ℕ → ℤ
excess count seats = pos count -ℤ pos seats

-- a section's part: the excess where its price is above 0, and the greater of the excess and 0
-- where it is 0
abbrev pub part : ℕ → ℕ → ℕ → ℤ
part count seats price = if nat_lt 0 price then excess count seats else pos (count - seats)

-- the square of a number
abbrev pub squared : ℤ → ℕ
squared z = nat_abs z * nat_abs z

-- the sum of the squared parts of all sections
abbrev pub error : List ℕ → List ℕ → List Tokens → ℕ
error [] seats prices = 0
error (count ∷ counts) [] prices = 0
error (count ∷ counts) (seats ∷ more) [] = 0
error (count ∷ counts) (seats ∷ more) (price ∷ prices) =
    squared (part count seats price.0) + error counts more prices
