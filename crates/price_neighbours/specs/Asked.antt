-- The sections whose least prices are asked for.
use Rattle.std.specs.Prelude.{ℕ, ◌-◌, Bool, nat_lt, List, slice_index}
use Rattle.market_units.specs.declared.units.SectionNo.{SectionNo}

-- more students take the section than it has seats
abbrev pub is_over : List ℕ → List ℕ → ℕ → Bool
is_over counts seats s = nat_lt (slice_index seats s) (slice_index counts s)

-- the section, with one less than its count
abbrev pub pair_of : List ℕ → ℕ → SectionNo × ℕ
pair_of counts s = (record { 0 = s }, slice_index counts s - 1)
