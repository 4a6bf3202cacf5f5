-- Amounts as prices.
use Rattle.std.proofs.Common.{ℕ, ◌≡◌, ◌∙◌, List, [], ◌∷◌, map, refl, ap, sym}
use Rattle.std.specs.Prelude.{slice_index}
use Rattle.market_units.specs.declared.units.Tokens.{Tokens}
use Rattle.bundle_rules.specs.Demand.{price_in}
use Rattle.published_parts.specs.Holdings.{tokens}

-- prices are the amounts that they are
pub tokens_of_prices : (prices : List Tokens) → tokens (map (λ price. price.0) prices) ≡ prices
tokens_of_prices [] = refl
tokens_of_prices (price ∷ prices) = ap (λ rest. price ∷ rest) (tokens_of_prices prices)

pub amounts_of_tokens : (amounts : List ℕ) → map (λ (price : Tokens). price.0) (tokens amounts) ≡ amounts
amounts_of_tokens [] = refl
amounts_of_tokens (amount ∷ amounts) = ap (λ rest. amount ∷ rest) (amounts_of_tokens amounts)

-- the price of a section is its amount
pub price_in_tokens : (amounts : List ℕ) → price_in (tokens amounts) ≡ slice_index amounts
price_in_tokens amounts = ap (λ all. slice_index all) (amounts_of_tokens amounts)

-- equal prices are of equal amounts
pub same_amounts : (one other : List ℕ) → tokens one ≡ tokens other → one ≡ other
same_amounts one other same = sym (amounts_of_tokens one) ∙ ap (map (λ (price : Tokens). price.0)) same ∙ amounts_of_tokens other
