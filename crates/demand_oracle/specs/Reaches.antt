-- What a table of what can be reached says of the offer that it was measured for.
use Rattle.std.specs.Prelude.{ℕ, ℤ, ◌*◌, ◌+◌, ◌-◌, ◌/◌, ◌^◌, ◌≤◌, ◌<◌, ◌≡◌, ◌⊎◌, max, min, true, List, [], length, slice_index, slice_index_or}
use Rattle.std.specs.Int.{bit_at}
use Rattle.market_units.specs.declared.limits.TheConstants.{MAX_COURSES}
use Rattle.bundle_rules.specs.Menus.{adjustment_in, credits_at}
use Rattle.bundle_bounds.specs.Offers.{OfferData, allowed_at}
use Rattle.bundle_bounds.specs.Opens.{above_zero}
use Rattle.demand_oracle.specs.declared.multipliers.Multipliers.{Multipliers}
use Rattle.demand_oracle.specs.declared.reach.Reach.{Reach}
use Rattle.demand_oracle.specs.Values.{hopes_from}
use Rattle.demand_oracle.specs.Covers.{CoversWithin}

-- the number in a row of a table
abbrev pub number_at : List (List ℕ) → ℕ → ℕ → ℕ
number_at table row place = slice_index (slice_index_or table row []) place

-- each row from this one on has what the adjustments of earlier places with the places from the
-- row's on can add
abbrev pub HoldsHopes : OfferData → List (List ℕ) → ℕ → Type 0
HoldsHopes offer table from =
    (k place : ℕ) → from ≤ k → k ≤ length offer.menu.places → place < k
    → number_at table k place ≡ hopes_from offer k place

-- each place that has a positive adjustment with an earlier one is in the word
abbrev pub HasRaised : List (ℕ × ℕ × ℤ) → ℕ → Type 0
HasRaised pairs word =
    (earlier place : ℕ) → earlier < place → bit_at word place ≡ 0
    → above_zero (adjustment_in pairs earlier place) ≡ 0

-- the number for a place, a count and so many units in the table of the most that can be added
abbrev pub within_at : List (List ℕ) → ℕ → ℕ → ℕ → ℕ
within_at table place count units = number_at table (place * 9 + count) units

-- the units of all of the budget, as far as the table has columns for them
abbrev pub top_of : OfferData → ℕ → ℕ
top_of offer shift = min 63 (offer.budget / 2 ^ shift)

-- what is asked of the table, where all of the budget is so many units: with all courses left, all
-- of these are too
abbrev pub IsAsked : ℕ → ℕ → ℕ → ℕ → Type 0
IsAsked courses top count units = (units ≤ top) × ((count < courses) ⊎ (units ≡ top))

-- from this place on the table has for each count up to the course cap, and for each number of
-- units that is asked with it, one that covers so many places from there on
abbrev pub HoldsCovers : OfferData → Multipliers → ℕ → ℕ → List (List ℕ) → ℕ → Type 0
HoldsCovers offer multipliers shift top table from =
    (k count units : ℕ) → from ≤ k → k ≤ length offer.menu.places → count ≤ offer.menu.courses
    → IsAsked offer.menu.courses top count units
    → CoversWithin offer multipliers shift k count units (within_at table k count units)

-- for these places and so many courses no number is greater than the greatest value for each of so
-- many places
abbrev pub AreSmall : ℕ → ℕ → List (List ℕ) → ℕ → ℕ → Type 0
AreSmall courses top table from last =
    (k count units : ℕ) → from ≤ k → k ≤ last → count ≤ courses → IsAsked courses top count units
    → within_at table k count units ≤ 65635001 * count

-- the numbers of a place that are asked are written: with its value and its cost in units before
-- what can be added from the next place on, or without it
pub record IsPlaced (courses top v cost k next : ℕ) (old new : List (List ℕ)) : Type 0 where
  pub none : (units : ℕ) → within_at new k 0 units ≡ within_at old (k + 1) 0 units
  pub dear : (count units : ℕ) → count < courses → IsAsked courses top (count + 1) units → units < cost
      → within_at new k (count + 1) units ≡ within_at old (k + 1) (count + 1) units
  pub more : (count units : ℕ) → count < courses → IsAsked courses top (count + 1) units → cost ≤ units
      → within_at new k (count + 1) units
      ≡ max (within_at old (k + 1) (count + 1) units)
      (within_at old next count (units - cost) + v)
  pub later : (j count units : ℕ) → k < j → count ≤ MAX_COURSES
      → within_at new j count units ≡ within_at old j count units

-- no allowed place has fewer credits
abbrev pub IsLightest : OfferData → ℕ → Type 0
IsLightest offer lightest =
    (place : ℕ) → place < length offer.menu.places → allowed_at offer place ≡ true
    → lightest ≤ credits_at offer.menu.places place

-- the table is that of the offer
pub record IsReach (offer : OfferData) (reach : Reach) : Type 0 where
  pub lightest : IsLightest offer reach.lightest
  pub hopes : HoldsHopes offer reach.hopes 0
  pub covers : HoldsCovers offer reach.credits reach.unit.shift (top_of offer reach.unit.shift)
      reach.most 0
