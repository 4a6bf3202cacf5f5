-- The elimination of oversubscription: a list of price vectors, of which each changes one price of
-- the one before.
use Rattle.std.specs.Prelude.{ℕ, ◌<◌, ◌≤◌, ◌≡◌, ◌+◌, ◌-◌, ◌/◌, ◌≤ℤ◌, ◌<ℤ◌, List, [], ◌∷◌, length, map, slice_index, slice_set, ⊤}
use Rattle.market_units.specs.declared.units.Tokens.{Tokens}
use Rattle.bundle_rules.specs.declared.bundle.Bundle.{Bundle}
use Rattle.bundle_rules.specs.Bundles.{sections_of}
use Rattle.bundle_rules.specs.Demand.{price_in}
use Rattle.clearing_error.specs.Errors.{excess}
use Rattle.demand_api.specs.Crowds.{CrowdData, demands, count}
use Rattle.own_price.specs.Least.{IsLeastPrice}

-- no section has more students than seats
abbrev pub AreCountsWithin : ℕ → (ℕ → ℕ) → List ℕ → Type 0
AreCountsWithin sections count seats = (s : ℕ) → s < sections → count s ≤ slice_index seats s

-- the section of greatest excess, the lowest ordinal among equals, and its count exceeds its seats
pub record IsMostOver (sections : ℕ) (count : ℕ → ℕ) (seats : List ℕ) (s : ℕ) : Type 0 where
  pub in_range : s < sections
  pub over : slice_index seats s < count s
  pub greatest : (t : ℕ) → t < sections
      → excess (count t) (slice_index seats t) ≤ℤ excess (count s) (slice_index seats s)
  pub lowest : (t : ℕ) → t < s
      → excess (count t) (slice_index seats t) <ℤ excess (count s) (slice_index seats s)

-- how many may still take a section after a round: its seats and half of those who are too many,
-- rounded down
abbrev pub limit_after : ℕ → ℕ → ℕ
limit_after count seats = seats + (count - seats) / 2

-- the section of greatest excess gets the least price at which at most that many take it; every
-- count is one over all students
pub record IsRoundAt (crowd : CrowdData) (seats : List ℕ) (before after : List Tokens) (s : ℕ)
    (price : Tokens) : Type 0 where
  pub most : IsMostOver crowd.sections (count crowd (price_in before)) seats s
  pub least : IsLeastPrice crowd (price_in before) s
      (limit_after (count crowd (price_in before) s) (slice_index seats s)) price.0
  pub changed : after ≡ slice_set before s price

-- a round changes the price of one section alone
abbrev pub IsRound : CrowdData → List ℕ → List Tokens → List Tokens → Type 0
IsRound crowd seats before after =
    (s : ℕ) × (price : Tokens) × IsRoundAt crowd seats before after s price

-- each vector is a round from the one before, the first from the start
abbrev pub AreRounds : CrowdData → List ℕ → List Tokens → List (List Tokens) → Type 0
AreRounds crowd seats start [] = ⊤
AreRounds crowd seats start (next ∷ vectors) =
    IsRound crowd seats start next × AreRounds crowd seats next vectors

-- the last vector, which is the start where there is no round
abbrev pub last : List Tokens → List (List Tokens) → List Tokens
last start [] = start
last start (next ∷ vectors) = last next vectors

-- rounds while some count exceeds its seats
pub record IsElimination (crowd : CrowdData) (seats : List ℕ) (start : List Tokens)
    (vectors : List (List Tokens)) : Type 0 where
  pub rounds : AreRounds crowd seats start vectors
  pub ends : AreCountsWithin crowd.sections (count crowd (price_in (last start vectors))) seats

-- the last prices and the number of rounds of the elimination
abbrev pub IsSettled : CrowdData → List ℕ → List Tokens → List Tokens → ℕ → Type 0
IsSettled crowd seats start prices rounds =
    (vectors : List (List Tokens)) × IsElimination crowd seats start vectors
    × (last start vectors ≡ prices) × (length vectors ≡ rounds)

-- the bundles are what each student takes at the prices, in file order
abbrev pub AreTaken : CrowdData → List Tokens → List Bundle → Type 0
AreTaken crowd prices bundles = map sections_of bundles ≡ demands crowd (price_in prices)
