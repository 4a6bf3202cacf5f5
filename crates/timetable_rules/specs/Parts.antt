-- The parts of a term in which a section runs: its first half, its second half, or both.
use Rattle.std.specs.Prelude.{ℕ, ◌≡◌, ◌⊎◌, IsTrue, Bool, true, false, ◌&&◌, ◌||◌, if◌then◌else◌, Option, Some, None, List, [], ◌++◌, codes}
use Rattle.std.specs.Str.{bytes_eq}
use Rattle.timetable_rules.specs.declared.parts.Parts.{Parts}

-- both halves, one of them, none
abbrev pub whole_term : Parts
whole_term = record { first = true; second = true }

abbrev pub first_half : Parts
first_half = record { first = true; second = false }

abbrev pub second_half : Parts
second_half = record { first = false; second = true }

abbrev pub no_part : Parts
no_part = record { first = false; second = false }

-- two sections share a part: both run in the first half, or both in the second
abbrev pub SharePart : Parts → Parts → Type 0
SharePart ones others =
    (IsTrue ones.first × IsTrue others.first) ⊎ (IsTrue ones.second × IsTrue others.second)

-- the same as a test, for definitions that compute
abbrev pub share_part : Parts → Parts → Bool
share_part ones others = (ones.first && others.first) || (ones.second && others.second)

-- how parts are written: the digit of each half, `1`, `2` or `12`
abbrev pub parts_spelling : Parts → List ℕ
parts_spelling parts = (if parts.first then codes "1" else []) ++ (if parts.second then codes "2" else [])

-- The text spells these parts, of which there is one at least.
pub record SpellsParts (text : List ℕ) (parts : Parts) : Type 0 where
  pub some : IsTrue (parts.first || parts.second)
  pub digits : text ≡ parts_spelling parts

-- the parts that a text spells, if it spells any, for definitions that compute
abbrev pub spelled_parts : List ℕ → Option Parts
spelled_parts text =
    if bytes_eq text (codes "1") then Some first_half
    else if bytes_eq text (codes "2") then Some second_half
    else if bytes_eq text (codes "12") then Some whole_term
    else None
