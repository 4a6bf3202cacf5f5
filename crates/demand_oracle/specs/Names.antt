-- Which of two bundles is preferred, where the names of sections decide between bundles of one
-- utility.
use Rattle.std.specs.Prelude.{ℕ, ◌<◌, ◌<ℤ◌, ◌≡◌, ◌⊎◌, ◌↔◌, true, false, Option, None, Some, List, length, slice_index}
use Rattle.std.specs.Int.{bit_at}
use Rattle.market_units.specs.Members.{has}
use Rattle.bundle_rules.specs.Wishes.{Wishes, utility}
use Rattle.bundle_rules.specs.Menus.{MenuData, wishes_of, section_at}
use Rattle.bundle_rules.specs.Ranks.{place_at, position_of}
use Rattle.demand_oracle.specs.declared.names.Names.{Names}

-- the first has a section that the second lacks, and its name stands before that of each section
-- that the second has and the first lacks
abbrev pub StandsFirst : (ℕ → ℕ) → List ℕ → List ℕ → Type 0
StandsFirst name a b =
    (s : ℕ) × (has a s ≡ true) × (has b s ≡ false)
    × ((t : ℕ) → has b t ≡ true → has a t ≡ false → name s < name t)

-- a has the greater utility, or the same and stands first
abbrev pub IsPreferredByName : (ℕ → ℕ) → Wishes → List ℕ → List ℕ → Type 0
IsPreferredByName name wishes a b =
    (utility wishes b <ℤ utility wishes a)
    ⊎ ((utility wishes a ≡ utility wishes b) × StandsFirst name a b)

-- no two rated sections have one name
abbrev pub AreNames : Wishes → (ℕ → ℕ) → Type 0
AreNames wishes name =
    (s t : ℕ) → 0 < wishes.rating s → 0 < wishes.rating t → name s ≡ name t → s ≡ t

-- one of these places is not in a word, and none that the word alone has is before it: for each
-- place there is a word of those before it
abbrev pub LeadsWord : List ℕ → List ℕ → ℕ → Type 0
LeadsWord before places word =
    (p : ℕ) × (has places p ≡ true) × (bit_at word p ≡ 0)
    × ((q : ℕ) → bit_at word q ≡ 1 → has places q ≡ false → bit_at (slice_index before p) q ≡ 0)

-- what a section is called
abbrev pub name_of : Names → ℕ → ℕ
name_of names = place_at names.order.now

-- the sections of a menu have names, and for each place there is a word of the places whose
-- sections' names stand before its own
pub record HoldsNames (menu : MenuData) (names : Names) : Type 0 where
  pub apart : AreNames (wishes_of menu) (name_of names)
  pub before : (p q : ℕ) → p < length menu.places → q < length menu.places
      → (bit_at (slice_index names.before p) q ≡ 1)
      ↔ (name_of names (section_at menu.places q) < name_of names (section_at menu.places p))

-- the position of a given place
abbrev pub rank_given : List ℕ → Option ℕ → Option ℕ
rank_given order None = None
rank_given order (Some k) = Some (position_of order k)
