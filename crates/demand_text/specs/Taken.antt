-- What a crowd takes at given prices.
use Rattle.std.specs.Prelude.{ℕ, ◌≡◌, ◌<◌, List, All, length}
use Rattle.bundle_rules.specs.Demand.{price_in}
use Rattle.clearing_error.specs.Errors.{error}
use Rattle.demand_api.specs.Crowds.{CrowdData, counts, demands}
use Rattle.market_units.specs.declared.units.Tokens.{Tokens}

-- the sections that each student takes, in file order; how many students take each section; and the
-- clearing error
pub record TakenData : Type 0 where
  pub bundles : List (List ℕ)
  pub counts : List ℕ
  pub error : ℕ

-- what a crowd takes where the sections have these seats and these prices
abbrev pub taken_at : CrowdData → List ℕ → List Tokens → TakenData
taken_at crowd seats prices = record {
  bundles = demands crowd (price_in prices);
  counts = counts crowd (price_in prices);
  error = error (counts crowd (price_in prices)) seats prices;
}

-- a bundle for each of so many students, of sections among so many, and a count for each section
pub record IsTakenBy (students sections : ℕ) (taken : TakenData) : Type 0 where
  pub each : length taken.bundles ≡ students
  pub within : All (λ bundle. All (λ s. s < sections) bundle) taken.bundles
  pub count : length taken.counts ≡ sections
