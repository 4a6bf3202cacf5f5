-- The sessions of a made market: what its students say. Students and sections are numbered from 1.
use Rattle.std.specs.Prelude.{ℕ, ◌+◌, ◌*◌, ◌%◌, ◌==◌, ℤ, pos, ◌-ℤ◌, min, nat_lt, if◌then◌else◌, Bool, List, [], ◌∷◌, ◌++◌, codes, map}
use Rattle.std.specs.Fmt.{decimal, signed_decimal}
use Rattle.std.specs.List.{filter, flat_map, range_with_len}
use Rattle.market_maker.specs.Catalogs.{section_name}
use Rattle.market_maker.specs.Lines.{command_of, numbers_to, text_of}
use Rattle.market_maker.specs.Rolls.{student_name}

-- each student rates so many of the sections
abbrev pub rated_count : ℕ → ℕ
rated_count sections = min sections 20

-- the sections that student i rates, one after another and round the catalogue: this one behind t
-- others
abbrev pub rated_section : ℕ → ℕ → ℕ → ℕ
rated_section sections i t = (7 * i + t) % sections + 1

-- how student i rates section j: 1 to 100
abbrev pub rating_of : ℕ → ℕ → ℕ → ℕ
rating_of seed i j = 1 + (seed % 100 + 17 * i + 29 * j + 7 * i * j) % 100

abbrev pub rating_line : ℕ → ℕ → ℕ → List ℕ
rating_line seed i j = command_of (codes "rate" ∷ student_name i ∷ section_name j ∷ decimal (rating_of seed i j) ∷ [])

-- student i's rating of the section behind t others
abbrev pub rating_behind : ℕ → ℕ → ℕ → ℕ → List ℕ
rating_behind seed sections i t = rating_line seed i (rated_section sections i t)

-- what student i adds for the first two of the rated sections together: -20 to 20
abbrev pub adjustment_of : ℕ → ℕ → ℤ
adjustment_of seed i = pos ((seed % 41 + i) % 41) -ℤ pos 20

abbrev pub adjustment_line : ℕ → ℕ → ℕ → List ℕ
adjustment_line seed sections i =
    command_of (codes "pair" ∷ student_name i ∷ section_name (rated_section sections i 0) ∷ section_name (rated_section sections i 1) ∷ signed_decimal (adjustment_of seed i) ∷ [])

-- the adjustment, where at least two sections are rated
abbrev pub adjustment_lines : ℕ → ℕ → ℕ → List (List ℕ)
adjustment_lines seed sections i =
    if nat_lt (rated_count sections) 2 then [] else (adjustment_line seed sections i ∷ [])

-- the lines of student i: the ratings, and behind them the adjustment
abbrev pub student_lines : ℕ → ℕ → ℕ → List (List ℕ)
student_lines seed sections i =
    map (rating_behind seed sections i) (range_with_len 0 (rated_count sections))
    ++ adjustment_lines seed sections i

-- the lines of the students of such a number, in the order of their numbers
abbrev pub lines_of : (ℕ → Bool) → ℕ → ℕ → ℕ → List (List ℕ)
lines_of is_in seed students sections =
    flat_map (student_lines seed sections) (filter is_in (numbers_to students))

abbrev pub is_odd : ℕ → Bool
is_odd i = i % 2 == 1

abbrev pub is_even : ℕ → Bool
is_even i = i % 2 == 0

-- the first session has the lines of the students of odd number, the second those of the others
abbrev pub first_text : ℕ → ℕ → ℕ → List ℕ
first_text seed students sections = text_of (lines_of is_odd seed students sections)

abbrev pub second_text : ℕ → ℕ → ℕ → List ℕ
second_text seed students sections = text_of (lines_of is_even seed students sections)
