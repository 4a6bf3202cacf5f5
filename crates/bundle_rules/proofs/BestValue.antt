-- What the value of the best bundle is.
use Rattle.std.proofs.Common.{ℕ, ◌≡◌, Bool, List}
use Rattle.bundle_rules.specs.Menus.{MenuData, wishes_of}
use Rattle.bundle_rules.specs.Demand.{IsBest}
use Rattle.bundle_rules.specs.Best.{best}
use Rattle.bundle_rules.specs.Existence.Demands.{one_best}

-- it is the best
pub best-is : (menu : MenuData) (price : ℕ → ℕ) (budget : ℕ) (allowed : ℕ → Bool)
    → IsBest (wishes_of menu) price budget allowed (best menu price budget allowed)
unfolding best
best-is menu price budget allowed = (one_best menu price budget allowed).1

-- and what is the best is it
pub best-only : (menu : MenuData) (price : ℕ → ℕ) (budget : ℕ) (allowed : ℕ → Bool) (bundle : List ℕ) → IsBest (wishes_of menu) price budget allowed bundle
    → bundle ≡ best menu price budget allowed
unfolding best
best-only menu price budget allowed bundle is = (one_best menu price budget allowed).2 bundle is
