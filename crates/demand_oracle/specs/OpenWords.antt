-- Words of places: bit p of one stands for place p.
use Rattle.std.specs.Prelude.{ℕ, ◌<◌, ◌≤◌, ◌≡◌, ◌↔◌, ◌++◌, true, List, [], ◌∷◌, length}
use Rattle.std.specs.Int.{bit_at}
use Rattle.bundle_rules.specs.Menus.{MenuData, section_at, clash_in}
use Rattle.bundle_bounds.specs.Offers.{OfferData, places_of}
use Rattle.bundle_bounds.specs.Opens.{is_apart}
use Rattle.bundle_bounds.specs.Laws.{IsTakable}

-- a word has the places below a number that have a property, and no others
abbrev pub IsWordOf : (ℕ → Type 0) → ℕ → ℕ → Type 0
IsWordOf property n word = (p : ℕ) → (bit_at word p ≡ 1) ↔ ((p < n) × property p)

-- a place clashes with another
abbrev pub Clashes : MenuData → ℕ → ℕ → Type 0
Clashes menu other p = clash_in menu.clashes p other ≡ true

-- the section of a place may be taken alone
abbrev pub IsAlone : OfferData → ℕ → Type 0
IsAlone offer p = IsTakable offer (section_at offer.menu.places p ∷ [])

-- a place from k on whose section may be taken alone, and that clashes with no chosen one
pub record StaysOpen (offer : OfferData) (k : ℕ) (chosen : List ℕ) (p : ℕ) : Type 0 where
  pub undecided : k ≤ p
  pub on_menu : p < length offer.menu.places
  pub alone : IsAlone offer p
  pub apart : is_apart offer (places_of offer.menu chosen) p ≡ true

-- a word has only such places, and all of them that may be taken with the chosen ones
pub record IsOpenWord (offer : OfferData) (k : ℕ) (chosen : List ℕ) (word : ℕ) : Type 0 where
  pub stays : (p : ℕ) → bit_at word p ≡ 1 → StaysOpen offer k chosen p
  pub has_takable : (p : ℕ) → k ≤ p → p < length offer.menu.places
      → IsTakable offer (chosen ++ section_at offer.menu.places p ∷ []) → bit_at word p ≡ 1
