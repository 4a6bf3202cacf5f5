-- Sets of a menu's sections as bits, one for each place of the menu.
use Rattle.std.specs.Prelude.{ℕ, zero, suc, ◌<ℤ◌, ◌≡◌, ◌≢◌, ◌⊎◌, Bool, true, List, [], ◌∷◌, map, length}
use Rattle.market_units.specs.Subsets.{earlier, chosen}
use Rattle.market_units.specs.Members.{has}
use Rattle.bundle_rules.specs.Wishes.{Wishes, utility}
use Rattle.bundle_rules.specs.Demand.{IsChoice}
use Rattle.bundle_rules.specs.Menus.{MenuData}

-- the sections of a menu, ascending: one for each place
abbrev pub menu_sections : MenuData → List ℕ
menu_sections menu = map (λ rated. rated.section.0) menu.places

-- which of these sections are in a set
abbrev pub bits_of : List ℕ → List ℕ → List Bool
bits_of sections set = map (has set) sections

-- so many places, from a first one on
abbrev pub places_from : ℕ → ℕ → List ℕ
places_from first zero = []
places_from first (suc count) = first ∷ places_from (suc first) count

-- the places of a menu
abbrev pub menu_places : MenuData → List ℕ
menu_places menu = places_from 0 (length menu.places)

-- a has the greater utility, or the same and the first place on which they differ
abbrev pub PrefersBits : Wishes → List ℕ → List Bool → List Bool → Type 0
PrefersBits wishes sections a b =
    (utility wishes (chosen b sections) <ℤ utility wishes (chosen a sections))
    ⊎ ((utility wishes (chosen a sections) ≡ utility wishes (chosen b sections))
    × (earlier a b ≡ true))

-- the bits of a choice that are preferred to those of every other one
pub record AreBestBits (wishes : Wishes) (sections : List ℕ) (price : ℕ → ℕ) (budget : ℕ)
    (allowed : ℕ → Bool) (bits : List Bool) : Type 0 where
  pub whole : length bits ≡ length sections
  pub choice : IsChoice wishes price budget allowed (chosen bits sections)
  pub preferred : (other : List Bool) → length other ≡ length sections
      → IsChoice wishes price budget allowed (chosen other sections) → other ≢ bits
      → PrefersBits wishes sections bits other
