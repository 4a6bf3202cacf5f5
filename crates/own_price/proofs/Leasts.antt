-- The least price is one, and it is the least from 0 up.
use Rattle.std.proofs.Common.{ℕ, ◌≡◌, ◌≢◌, ◌<◌, ◌≤◌, ◌+◌, ◌*◌, ◌==◌, ◌∙◌, List, [], ◌∷◌, length, arith, sym, inl, inr}
use Rattle.std.specs.Prelude.{slice_set, slice_index_or}
use Rattle.std.proofs.lemmas.Bool.{cases_order, cases_Bool}
use Rattle.std.proofs.lemmas.Bool.Decides.{nat_tests}
use Rattle.std.proofs.lemmas.List.{length-set}
use Rattle.std.proofs.lemmas.List.Elements.{All-set}
use Rattle.market_units.specs.declared.units.SectionNo.{SectionNo}
use Rattle.market_units.specs.declared.units.Tokens.{Tokens}
use Rattle.bundle_rules.specs.Demand.{price_in}
use Rattle.demand_api.specs.Crowds.{CrowdData, top, count}
use Rattle.demand_api.specs.Prices.{with_price, AreLeastPrices}
use Rattle.demand_api.specs.Asking.{ArePricesFor, RoseAtMost}
use Rattle.demand_api.proofs.Halving.{count_same, with_here, with_there, price_kept, price_written}
use Rattle.own_price.specs.Least.{IsLeastPrice}

pub one_least_price : (crowd : CrowdData) (price : ℕ → ℕ) (s limit one other : ℕ) → IsLeastPrice crowd price s limit one
    → IsLeastPrice crowd price s limit other → one ≡ other
one_least_price crowd price s limit one other is is' = elim (cases_order one other) [
  | inl same ↦ same
  | inr (inl low) ↦
      let more : limit < count crowd (with_price price s one) s = is'.lower one low in
      let few : count crowd (with_price price s one) s ≤ limit = is.within in absurd (omega arith)
  | inr (inr high) ↦
      let more : limit < count crowd (with_price price s other) s = is.lower other high in
      let few : count crowd (with_price price s other) s ≤ limit = is'.within in absurd (omega arith)
]

-- the price that is put in stands there, whatever stood there
put_in : (prices : List Tokens) (s q p t : ℕ) → with_price (price_in (slice_set prices s (record { 0 = q }))) s p t ≡ with_price (price_in prices) s p t
put_in prices s q p t = elim (cases_Bool (t == s)) [
  | inl here ↦
      let e : t ≡ s = grind (arith, nat_tests) in
      rw e (with_here (price_in (slice_set prices s (record { 0 = q }))) s p ∙ sym (with_here (price_in prices) s p))
  | inr there ↦ let other : t ≢ s = λ e. grind (arith, nat_tests) in
      with_there (price_in (slice_set prices s (record { 0 = q }))) s p t other ∙ price_kept prices s q t other ∙ sym (with_there (price_in prices) s p t other)
]

count_put : (crowd : CrowdData) (prices : List Tokens) (s q p : ℕ)
    → count crowd (with_price (price_in (slice_set prices s (record { 0 = q }))) s p) s ≡ count crowd (with_price (price_in prices) s p) s
count_put crowd prices s q p =
    count_same crowd (with_price (price_in (slice_set prices s (record { 0 = q }))) s p) (with_price (price_in prices) s p) s (put_in prices s q p)

-- the prices from which the least is sought
pub from_zero : (crowd : CrowdData) (prices : List Tokens) (s : ℕ) → ArePricesFor crowd prices → ArePricesFor crowd (slice_set prices s (record { 0 = 0 }))
from_zero crowd prices s are = record {
  same = length-set prices s (record { 0 = 0 }) ∙ are.same;
  high = All-set (λ price. price.0 ≤ top crowd) prices s (record { 0 = 0 }) (omega arith) are.high;
}

-- the least from 0 up is the least
pub least_found : (crowd : CrowdData) (prices : List Tokens) (section : SectionNo) (limit index : ℕ) (found : List Tokens) (d : Tokens) → index ≡ section.0
    → section.0 < length prices
    → AreLeastPrices crowd (price_in (slice_set prices index (record { 0 = 0 }))) ((section, limit) ∷ []) found
    → IsLeastPrice crowd (price_in prices) section.0 limit (slice_index_or found 0 d).0
least_found crowd prices section limit index [] d at low all = absurd all
least_found crowd prices section limit index (least ∷ more) d at low all =
    let is = rw at at all.0 in
    let zero_there : price_in (slice_set prices section.0 (record { 0 = 0 })) section.0 ≡ 0 = price_written prices section.0 0 low in
    record {
      within = let few = is.within in let same = count_put crowd prices section.0 0 least.0 in omega (arith, few, same);
      lower = λ p below. let more_take = is.lower p (omega (arith, zero_there)) below in let same = count_put crowd prices section.0 0 p in omega (arith, more_take, same);
    }

-- what is asked for one pair
pub asked_for_one : (students digits before now : ℕ) → RoseAtMost (1 * students * (2 * digits + 1)) before now
    → RoseAtMost (students * (2 * digits + 1)) before now
asked_for_one students digits before now rose = record { kept = rose.kept; most = let most = rose.most in omega (arith, most) }
