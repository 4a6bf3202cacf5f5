-- What the workers of a round are given.
use Rattle.std.specs.Prelude.{List, All, map}
use Rattle.std.proofs.Common.{Vec, Global}
use Rattle.market_units.specs.declared.units.Tokens.{Tokens}
use Rattle.demand_api.specs.Crowds.{CrowdData}
use Rattle.demand_api.specs.Asking.{ArePricesFor}

-- the prices of each version
abbrev pub prices_of : List (Vec Tokens Global) → List (List Tokens)
prices_of versions = map (λ (version : Vec Tokens Global). version.items) versions

-- each version has a price for each section, each at most the top
abbrev pub AreVersionsFor : CrowdData → List (Vec Tokens Global) → Type 0
AreVersionsFor crowd versions =
    All (λ (version : Vec Tokens Global). ArePricesFor crowd version.items) versions
