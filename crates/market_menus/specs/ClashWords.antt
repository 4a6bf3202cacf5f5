-- Words of clashes.
use Rattle.std.specs.Prelude.{ℕ, ◌≡◌, ◌<◌, Bool, ◌==◌, ◌&&◌, nat_lt, List, length}
use Rattle.std.specs.Int.{bit_at}
use Rattle.bundle_rules.specs.declared.menu.Rated.{Rated}
use Rattle.bundle_rules.specs.Menus.{clash_in, section_at}
use Rattle.course_catalog.specs.Sections.{Section, sections_clash}

-- there is a place of this number, and its section clashes with the section
abbrev pub clashes_at : List Section → List Rated → ℕ → ℕ → Bool
clashes_at catalog places section other =
    nat_lt other (length places) && sections_clash catalog section (section_at places other)

-- the bits of a word tell which places clash with a section
abbrev pub IsClashWord : List Section → List Rated → ℕ → ℕ → Type 0
IsClashWord catalog places section word =
    (other : ℕ) → (bit_at word other == 1) ≡ clashes_at catalog places section other

-- one word for each place
pub record AreClashWords (catalog : List Section) (places : List Rated)
    (words : List ℕ) : Type 0 where
  pub whole : length words ≡ length places
  pub each : (a b : ℕ) → a < length places
      → clash_in words a b ≡ clashes_at catalog places (section_at places a) b
