-- Sets of sections, each written as its ordinals in ascending order, with one section more.
use Rattle.std.specs.Prelude.{ℕ, nat_le, nat_lt, List, ◌∷◌, ◌++◌}
use Rattle.std.specs.List.{filter, position_or_len}
use Rattle.market_units.specs.declared.units.SectionNo.{SectionNo}

-- how many of these sections, which ascend, are below the section
abbrev pub place_in : ℕ → List SectionNo → ℕ
place_in s sections = position_or_len (λ (other : SectionNo). nat_le s other.0) sections

-- the set and the section: what is below it, the section, and what is above it
abbrev pub with_section : ℕ → List ℕ → List ℕ
with_section s set = filter (λ t. nat_lt t s) set ++ s ∷ filter (λ t. nat_lt s t) set
