-- What is tried below a node of the search in a bundle.
use Rattle.std.specs.Prelude.{ℕ, true, List}
use Rattle.bundle_rules.specs.Extensions.{IsBestExtension}
use Rattle.bundle_rules.specs.Wishes.{Wishes}

-- the bundle that is preferred to every other one that is this front and some of the later
-- sections; no price and no section is in the way
abbrev pub IsBestOfThese : Wishes → List ℕ → List ℕ → List ℕ → Type 0
IsBestOfThese wishes front later bundle =
    IsBestExtension wishes (λ s. 0) 0 (λ s. true) front later bundle
