-- The most that can still be reached from a node.
use Rattle.std.specs.Prelude.{ℕ, ◌+◌, ◌*◌, ◌≤◌, ◌<◌, ◌≡◌, ◌≢◌, ℤ, pos, ◌+ℤ◌, ◌*ℤ◌, ◌≤ℤ◌, ◌⊎◌, ◌^◌, true, false, List, length}
use Rattle.market_units.specs.Totals.{total}
use Rattle.market_units.specs.Members.{has}
use Rattle.bundle_rules.specs.Sets.{IsAscending}
use Rattle.bundle_rules.specs.Wishes.{utility}
use Rattle.bundle_rules.specs.Menus.{by_place, wishes_of, clash_in}
use Rattle.bundle_bounds.specs.Offers.{OfferData, allowed_at, places_of}
use Rattle.bundle_bounds.specs.Opens.{budget_left, credits_left}
use Rattle.bundle_bounds.specs.Laws.{IsTakable, Completes}
use Rattle.demand_oracle.specs.declared.multipliers.Multipliers.{Multipliers}
use Rattle.demand_oracle.specs.Values.{hopes_from, value, units_at}

-- allowed places from k on, of which no two clash
pub record AreApartFrom (offer : OfferData) (k : ℕ) (ps : List ℕ) : Type 0 where
  pub ascending : IsAscending ps
  pub later : (p : ℕ) → has ps p ≡ true → k ≤ p
  pub on_menu : (p : ℕ) → has ps p ≡ true → p < length offer.menu.places
  pub allowed : (p : ℕ) → has ps p ≡ true → allowed_at offer p ≡ true
  pub apart : (p q : ℕ) → has ps p ≡ true → has ps q ≡ true → p ≢ q
      → clash_in offer.menu.clashes p q ≡ false

-- the number is at least the values of any so many places from k on that may be taken together
abbrev pub Covers : OfferData → Multipliers → ℕ → ℕ → ℕ → Type 0
Covers offer multipliers k count most =
    (ps : List ℕ) → AreApartFrom offer k ps → length ps ≤ count
    → total (value offer multipliers) ps ≤ most

-- a thousand times the number is at least the values of any so many places from k on that may be
-- taken together and cost no more than so many units
abbrev pub CoversWithin : OfferData → Multipliers → ℕ → ℕ → ℕ → ℕ → ℕ → Type 0
CoversWithin offer multipliers shift k count units most =
    (ps : List ℕ) → AreApartFrom offer k ps → length ps ≤ count
    → total (units_at offer shift) ps ≤ units → total (value offer multipliers) ps ≤ 1000 * most

-- a million times the utility of chosen places with all that their adjustments with places from k
-- on can add
abbrev pub hoped_of : OfferData → ℕ → List ℕ → ℤ
hoped_of offer k chosen =
    pos 1000000 *ℤ (utility (by_place offer.menu) chosen +ℤ pos (total (hopes_from offer k) chosen))

-- what can be reached from a node: what is hoped for, what is left of the budget and of the credits
-- at these multipliers, and a number that covers what can be added
abbrev pub reach_of : OfferData → Multipliers → ℕ → List ℕ → ℕ → ℤ
reach_of offer multipliers k chosen most =
    hoped_of offer k chosen
    +ℤ pos
    ((multipliers.money * budget_left offer chosen + multipliers.credits
    * credits_left offer chosen)
    + most)

-- a number of millionths that is enough for anything, or at least what a takable bundle can add to
-- the hopes of the node that it completes
abbrev pub IsAdded : OfferData → ℕ → List ℕ → ℤ → Type 0
IsAdded offer k chosen added =
    (bundle : List ℕ) → IsTakable offer bundle → Completes offer k chosen bundle
    → (pos (2 ^ 62) ≤ℤ added)
    ⊎ ((pos 1000000 *ℤ utility (wishes_of offer.menu) bundle)
    ≤ℤ (hoped_of offer k (places_of offer.menu chosen) +ℤ added))
