-- A menu as the data that it is built of, and the wishes that it says.
use Rattle.std.specs.Prelude.{ℕ, zero, suc, ℤ, pos, neg_ℤ, ◌≤ℤ◌, ◌<◌, ◌≤◌, ◌≡◌, ◌≢◌, ◌&&◌, ◌||◌, ◌==◌, if◌then◌else◌, Bool, true, false, List, [], ◌∷◌, map, length, slice_index, All, ⊤}
use Rattle.std.specs.Int.{bit_at}
use Rattle.market_units.specs.declared.limits.TheConstants.{MAX_ADJUSTMENT, MAX_COURSES, MAX_CREDITS, MAX_PAIRS, MAX_RATING, MAX_RATINGS, MAX_SECTION_CREDITS, MAX_SECTIONS}
use Rattle.bundle_rules.specs.declared.menu.Rated.{Rated}
use Rattle.bundle_rules.specs.Sets.{IsAscending}
use Rattle.bundle_rules.specs.Wishes.{Wishes, utility}

-- the rated sections, the adjustments of pairs of places, a word of clashes for each place, and the
-- two caps
pub record MenuData : Type 0 where
  pub places : List Rated
  pub pairs : List (ℕ × ℕ × ℤ)
  pub clashes : List ℕ
  pub credits : ℕ
  pub courses : ℕ

-- the adjustment of two places in either order, 0 where no pair names them
abbrev pub adjustment_in : List (ℕ × ℕ × ℤ) → ℕ → ℕ → ℤ
adjustment_in [] a b = pos 0
adjustment_in (pair ∷ pairs) a b =
    if (pair.0 == a && pair.1 == b) || (pair.0 == b && pair.1 == a) then pair.2
    else adjustment_in pairs a b

-- whether two places clash: bit b of the word of place a
abbrev pub clash_in : List ℕ → ℕ → ℕ → Bool
clash_in clashes a b = bit_at (slice_index clashes a) b == 1

-- the place of a section, or the number of places where it has none
abbrev pub place_in : List Rated → ℕ → ℕ
place_in [] s = 0
place_in (rated ∷ more) s = if rated.section.0 == s then 0 else suc (place_in more s)

-- the section, course, rating and credits at a place, 0 where there is no such place
abbrev pub section_at : List Rated → ℕ → ℕ
section_at [] k = 0
section_at (rated ∷ more) zero = rated.section.0
section_at (rated ∷ more) (suc k) = section_at more k

abbrev pub course_at : List Rated → ℕ → ℕ
course_at [] k = 0
course_at (rated ∷ more) zero = rated.course
course_at (rated ∷ more) (suc k) = course_at more k

abbrev pub rating_at : List Rated → ℕ → ℕ
rating_at [] k = 0
rating_at (rated ∷ more) zero = rated.rating
rating_at (rated ∷ more) (suc k) = rating_at more k

abbrev pub credits_at : List Rated → ℕ → ℕ
credits_at [] k = 0
credits_at (rated ∷ more) zero = rated.credits
credits_at (rated ∷ more) (suc k) = credits_at more k

-- what the menu says of its places
unfoldable pub by_place : MenuData → Wishes
by_place menu = record {
  rating = rating_at menu.places;
  adjustment = adjustment_in menu.pairs;
  credits = credits_at menu.places;
  clash = clash_in menu.clashes;
  credit_cap = menu.credits;
  course_cap = menu.courses;
}

-- what it says of sections: what it says of their places
unfoldable pub wishes_of : MenuData → Wishes
wishes_of menu = record {
  rating = λ s. rating_at menu.places (place_in menu.places s);
  adjustment = λ s t. adjustment_in menu.pairs (place_in menu.places s) (place_in menu.places t);
  credits = λ s. credits_at menu.places (place_in menu.places s);
  clash = λ s t. clash_in menu.clashes (place_in menu.places s) (place_in menu.places t);
  credit_cap = menu.credits;
  course_cap = menu.courses;
}

-- what a bundle is worth to the student of the menu: its utility
abbrev pub worth : MenuData → List ℕ → ℤ
worth menu bundle = utility (wishes_of menu) bundle

-- what each place holds: a section below 400, a rating from 1 to 100, credits of at most 100
pub record IsRated (rated : Rated) : Type 0 where
  pub section : rated.section.0 < MAX_SECTIONS
  pub rating_low : 1 ≤ rated.rating
  pub rating_high : rated.rating ≤ MAX_RATING
  pub credits : rated.credits ≤ MAX_SECTION_CREDITS

-- at most 60 places, ascending by section
pub record ArePlaces (places : List Rated) : Type 0 where
  pub few : length places ≤ MAX_RATINGS
  pub ascending : IsAscending (map (λ rated. rated.section.0) places)
  pub each : All IsRated places

-- two places below this number, the lower first, with an adjustment from -200 to 200
pub record IsPair (places : ℕ) (pair : ℕ × ℕ × ℤ) : Type 0 where
  pub ordered : pair.0 < pair.1
  pub on_menu : pair.1 < places
  pub low : neg_ℤ MAX_ADJUSTMENT ≤ℤ pair.2
  pub high : pair.2 ≤ℤ MAX_ADJUSTMENT

-- each pair names other places than all later ones
abbrev pub AreDifferent : List (ℕ × ℕ × ℤ) → Type 0
AreDifferent [] = ⊤
AreDifferent (pair ∷ pairs) =
    All (λ other. pair.0 ≡ other.0 → pair.1 ≢ other.1) pairs × AreDifferent pairs

-- at most 200 pairs, no two of which name the same two places
pub record ArePairs (places : ℕ) (pairs : List (ℕ × ℕ × ℤ)) : Type 0 where
  pub few : length pairs ≤ MAX_PAIRS
  pub each : All (IsPair places) pairs
  pub different : AreDifferent pairs

-- the clash of two places is mutual, and there is one where they are of one course
pub record ClashesWell (places : List Rated) (clashes : List ℕ) (a b : ℕ) : Type 0 where
  pub both_ways : clash_in clashes a b ≡ clash_in clashes b a
  pub one_course : a ≢ b → course_at places a ≡ course_at places b → clash_in clashes a b ≡ true

-- one word for each place; no place clashes with itself, and each two places clash well
pub record AreClashes (places : List Rated) (clashes : List ℕ) : Type 0 where
  pub words : length clashes ≡ length places
  pub not_itself : (a : ℕ) → a < length places → clash_in clashes a a ≡ false
  pub each : (a b : ℕ) → a < length places → b < length places → ClashesWell places clashes a b

-- the credit cap is at most 800, and the course cap at most 8
pub record AreCaps (credits courses : ℕ) : Type 0 where
  pub credits_cap : credits ≤ MAX_CREDITS
  pub courses_cap : courses ≤ MAX_COURSES

-- what every menu keeps
pub record IsMenu (menu : MenuData) : Type 0 where
  pub places : ArePlaces menu.places
  pub pairs : ArePairs (length menu.places) menu.pairs
  pub clashes : AreClashes menu.places menu.clashes
  pub caps : AreCaps menu.credits menu.courses
