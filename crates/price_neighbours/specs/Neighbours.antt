-- The neighbours of a vector of prices. Counts and prices are functions of a section's ordinal.
use Rattle.std.specs.Prelude.{ℕ, ◌+◌, ◌-◌, ℤ, pos, negsuc, ◌+ℤ◌, ◌*ℤ◌, min, ◌&&◌, nat_lt, if◌then◌else◌, List, [], ◌∷◌, ◌++◌, length, map, flat_map, find, Option, slice_index, slice_set}
use Rattle.std.specs.Option.{option_map, option_to_list}
use Rattle.std.specs.List.{range_with_len}
use Rattle.market_units.specs.declared.units.Tokens.{Tokens}
use Rattle.bundle_rules.specs.Demand.{price_in}
use Rattle.clearing_error.specs.Errors.{excess}
use Rattle.demand_api.specs.Crowds.{CrowdData, top, count}
use Rattle.demand_api.specs.Prices.{with_price}
use Rattle.price_neighbours.specs.Distinct.{once, same_prices}

-- an amount cut to the range 0 to the top
abbrev pub cut : ℕ → ℤ → ℕ
cut top (pos amount) = min amount top
cut top (negsuc amount) = 0

-- a price plus so many times the section's excess, cut to the range 0 to the top
abbrev pub stepped_price : ℕ → ℕ → ℕ → ℕ → ℕ → ℕ
stepped_price top price count seats step = cut top (pos price +ℤ (pos step *ℤ excess count seats))

-- the vector in which every price has made that step
abbrev pub stepped : ℕ → (ℕ → ℕ) → List ℕ → List Tokens → ℕ → List Tokens
stepped top count seats prices step =
    map
    (λ s. record { 0 = stepped_price top (price_in prices s) (count s) (slice_index seats s) step })
    (range_with_len 0 (length prices))

-- the least price above the present one at which fewer students take the section, the other prices
-- as given
abbrev pub least_fewer : CrowdData → (ℕ → ℕ) → ℕ → Option ℕ
least_fewer crowd price s =
    find (λ p. nat_lt (count crowd (with_price price s p) s) (count crowd price s))
    (range_with_len (price s + 1) (top crowd - price s))

-- the vector in which one section alone has another price
abbrev pub with_alone : List Tokens → ℕ → ℕ → List Tokens
with_alone prices s price = slice_set prices s (record { 0 = price })

-- a section that more students take than it has seats gets that least price; one with free seats
-- and a price above 0 gets price 0; any other makes no vector
abbrev pub alone : (ℕ → Option ℕ) → (ℕ → ℕ) → List ℕ → List Tokens → ℕ → List (List Tokens)
alone least count seats prices s =
    if nat_lt (slice_index seats s) (count s)
    then option_to_list (option_map (with_alone prices s) (least s))
    else if nat_lt (count s) (slice_index seats s) && nat_lt 0 (price_in prices s)
    then with_alone prices s 0 ∷ []
    else []

-- the neighbours: for each step the vector in which every price makes it, then by ordinal those in
-- which one section alone has another price; equal vectors once, at the first place
unfoldable pub neighbours : CrowdData → List ℕ → List ℕ → List Tokens → List (List Tokens)
neighbours crowd seats steps prices =
    let counted = count crowd (price_in prices) in
    once same_prices
    (map (stepped (top crowd) counted seats prices) steps
    ++ flat_map (alone (least_fewer crowd (price_in prices)) counted seats prices)
    (range_with_len 0 (length prices)))
