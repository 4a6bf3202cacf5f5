-- What a publication is checked by.
use Rattle.std.specs.Prelude.{ℕ, List}
use Rattle.demand_api.specs.Crowds.{CrowdData}
use Rattle.published_parts.specs.Markets.{Market, seats_in}

-- the crowd with its budgets before any raise, the seats of each section, and the raise in percent
pub record TermsData : Type 0 where
  pub crowd : CrowdData
  pub seats : List ℕ
  pub raise : ℕ

-- those of a market with this crowd
abbrev pub terms_in : Market → CrowdData → TermsData
terms_in market crowd =
    record { crowd = crowd; seats = seats_in market; raise = market.settings.raise }
