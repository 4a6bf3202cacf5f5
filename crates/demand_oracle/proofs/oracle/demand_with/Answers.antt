use Rattle.std.proofs.Common.{Some, subst, sym, inl, refl}
use Rattle.std.specs.FinSet as set
use Rattle.market_units.specs.Members.{has}
use Rattle.bundle_rules.specs.Menus.{wishes_of}
use Rattle.bundle_rules.specs.Demand.{price_in}
use Rattle.bundle_rules.specs.Given.{IsBestOf}
use Rattle.bundle_rules.specs.Bundles.{sections_of}
use Rattle.bundle_bounds.specs.Offers.{offer_of}
use Rattle.demand_oracle.specs.Bests.{IsAmong}
use Rattle.demand_oracle.specs.Search.{LeadWanted, wanted_by}
use Rattle.demand_oracle.proofs.Searching.{best_of_wanted, first_leads}
use Rattle.demand_oracle.proofs.oracle.demand_with.Goals as goal

pub returns-clause-some : goal.returns-clause-some
returns-clause-some c =
    let menu = c.args.menu.now in
    let place = c.in_ok-place.place in
    let best =
    best_of_wanted (offer_of menu c.args.prices.now c.args.budget.0 c.args.allowed.now) (wanted_by menu (Some place)) _
    (first_leads (offer_of menu c.args.prices.now c.args.budget.0 c.args.allowed.now) (wanted_by menu (Some place)) _ c.first.ensures.0
    (subst (LeadWanted (offer_of menu c.args.prices.now c.args.budget.0 c.args.allowed.now) (wanted_by menu (Some place))) c.first.ensures.1
    c.search-best.ensures.leads))
    (c.search-best.ensures.wanted (sections_of c.first.result) (subst (IsAmong (sections_of c.first.result)) (sym c.first.ensures.1) (inl refl))) in
    subst
    (λ t. IsBestOf (wishes_of menu) (price_in c.args.prices.now) c.args.budget.0 (set.contains c.args.allowed.now) (λ b. has b t)
    (sections_of c.first.result))
    c.in_ok-place.ensures.place.1 best
