-- The best bundles as plain data.
use Rattle.std.specs.Prelude.{ℕ, List, map, take}
use Rattle.bundle_rules.specs.Bundles.{sections_of}
use Rattle.demand_oracle.specs.declared.best.Best.{Best}

-- their sections, in order
abbrev pub bundles_of : Best → List (List ℕ)
bundles_of best = map sections_of (take best.count best.bundles)
