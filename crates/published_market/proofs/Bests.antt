-- A best bundle is the best of its offer.
use Rattle.std.proofs.Common.{sym, subst}
use Rattle.std.specs.FinSet as set
use Rattle.bundle_rules.specs.Bundles.{sections_of}
use Rattle.bundle_rules.specs.Demand.{IsBest, price_in}
use Rattle.bundle_rules.specs.Menus.{wishes_of}
use Rattle.bundle_rules.proofs.BestValue.{best-is}
use Rattle.published_market.specs.declared.best.Best.{Best}

pub best_holds : (one : Best)
    → IsBest (wishes_of one.menu.now) (price_in one.prices.now) one.budget.0 (set.contains one.allowed.now) (sections_of one.bundle.now)
best_holds one =
    subst (IsBest (wishes_of one.menu.now) (price_in one.prices.now) one.budget.0 (set.contains one.allowed.now)) (sym one.best)
    (best-is one.menu.now (price_in one.prices.now) one.budget.0 (set.contains one.allowed.now))
