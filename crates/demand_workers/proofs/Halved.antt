-- The rest of a walk, found by halving.
use Rattle.std.proofs.Common.{ℕ, ◌≡◌, ◌<◌, ◌≤◌, ◌*◌, ◌^◌, List, ap, sym, subst, arith}
use Rattle.market_units.specs.declared.units.Tokens.{Tokens}
use Rattle.bundle_rules.specs.Demand.{price_in}
use Rattle.demand_api.specs.Asking.{ArePricesFor, RoseAtMost}
use Rattle.demand_api.specs.Crowds.{CrowdData, count, top}
use Rattle.demand_api.specs.Prices.{with_price}
use Rattle.demand_api.proofs.Counts.{none_at_top}
use Rattle.demand_api.proofs.Halving.{AreHalvings, IsHalving, halvings_most, with_here}

-- from a price below which there are too many takers, up to the top
pub halving_from : (crowd : CrowdData) (prices trial : List Tokens) (s limit from high : ℕ) → ArePricesFor crowd prices → trial ≡ prices
    → high ≡ top crowd → price_in prices s ≤ from → from ≤ top crowd
    → ((p : ℕ) → price_in prices s ≤ p → p < from → limit < count crowd (with_price (price_in prices) s p) s)
    → IsHalving crowd prices trial s limit from high
halving_from crowd prices trial s limit from high are copied at_top low capped lower = record {
  trial_fits = subst (ArePricesFor crowd) (sym copied) are;
  others = λ t other. ap (λ (l : List Tokens). price_in l t) copied;
  from = low;
  ordered = omega (arith, at_top, capped);
  below_top = omega (arith, at_top);
  lower = lower;
  within =
      let none : count crowd (with_price (price_in prices) s high) s ≡ 0 =
      none_at_top crowd s (with_price (price_in prices) s high) (rw (with_here (price_in prices) s high) (omega (arith, at_top))) in
      omega (arith, none);
}

-- more take the section where the same is asked
pub asked_as : (crowd : CrowdData) (trial asked : List Tokens) (limit s : ℕ) → asked ≡ trial → limit < count crowd (price_in asked) s
    → limit < count crowd (price_in trial) s
asked_as crowd trial asked limit s copied more = subst (λ (l : List Tokens). limit < count crowd (price_in l) s) copied more

-- all its rounds
pub halvings_rose : (each n low high before now digits : ℕ) → AreHalvings each n low high before now → n < 2 ^ digits → RoseAtMost (digits * each) before now
halvings_rose each n low high before now digits are fits = record {
  kept = are.kept;
  most = halvings_most each n low high before now digits are fits;
}
