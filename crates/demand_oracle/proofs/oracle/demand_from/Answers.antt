use Rattle.std.proofs.Common.{None, refl, subst}
use Rattle.std.specs.FinSet as set
use Rattle.bundle_rules.specs.Demand.{price_in}
use Rattle.bundle_rules.specs.Bundles.{sections_of}
use Rattle.bundle_rules.proofs.GivenBest.{best_of_all}
use Rattle.bundle_bounds.specs.Offers.{offer_of}
use Rattle.demand_oracle.specs.Search.{LeadWanted, wanted_by}
use Rattle.demand_oracle.proofs.Searching.{best_of_wanted, first_leads}
use Rattle.demand_oracle.proofs.oracle.demand_from.Goals as goal

pub returns : goal.returns
returns c =
    let menu = c.args.menu.now in
    let offer = offer_of menu c.args.prices.now c.args.budget.0 c.args.allowed.now in
    (best_of_all menu (price_in c.args.prices.now) c.args.budget.0 (set.contains c.args.allowed.now) (sections_of c.first.result)).0
    (best_of_wanted offer (wanted_by menu None) _
    (first_leads offer (wanted_by menu None) _ c.first.ensures.0 (subst (LeadWanted offer (wanted_by menu None)) c.first.ensures.1 c.search.ensures.leads)) refl)
