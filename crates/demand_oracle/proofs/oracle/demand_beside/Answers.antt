use Rattle.std.proofs.Common.{sym, subst, ◌∙◌}
use Rattle.std.proofs.lemmas.Bool.{true≢false}
use Rattle.market_units.specs.Members.{has}
use Rattle.bundle_rules.specs.Bundles.{sections_of}
use Rattle.bundle_bounds.specs.Offers.{offer_of}
use Rattle.demand_oracle.specs.Search.{LeadsWanted, LeadWanted}
use Rattle.demand_oracle.proofs.Searching.{first_leads}
use Rattle.demand_oracle.proofs.Beside.{best_where_none, first_is_best, found_is_best}
use Rattle.demand_oracle.proofs.oracle.demand_beside.Goals as goal

pub returns-in_default : goal.returns-in_default
returns-in_default c =
    best_where_none (offer_of c.args.menu.now c.args.prices.now c.args.budget.0 c.args.allowed.now) c.args.section.0 (sections_of c.args.first.now)
    c.requires.first (λ other may is. c.in_default.ensures.none (other, may, is))

pub returns-then-prefers : goal.returns-then-prefers
returns-then-prefers c =
    let offer = offer_of c.args.menu.now c.args.prices.now c.args.budget.0 c.args.allowed.now in
    let leads =
    subst (λ t. LeadsWanted offer (λ bundle. has bundle t) (sections_of c.first-found.result)) c.in-Some.ensures.place.1
    (first_leads offer _ _ c.first-found.ensures.0 (subst (LeadWanted offer _) c.first-found.ensures.1 c.search.ensures.leads)) in
    first_is_best offer c.args.section.0 (sections_of c.args.first.now) c.requires.first (sections_of c.first-found.result) leads
    (c.prefers.ensures.0 c.if-prefers.true)

pub returns : goal.returns
returns c =
    let offer = offer_of c.args.menu.now c.args.prices.now c.args.budget.0 c.args.allowed.now in
    let leads =
    subst (λ t. LeadsWanted offer (λ bundle. has bundle t) (sections_of c.first-found.result)) c.in-Some.ensures.place.1
    (first_leads offer _ _ c.first-found.ensures.0 (subst (LeadWanted offer _) c.first-found.ensures.1 c.search.ensures.leads)) in
    found_is_best offer c.args.section.0 (sections_of c.args.first.now) c.requires.first (sections_of c.first-found.result) leads
    (λ more. true≢false (sym (c.prefers.ensures.1 more) ∙ c.if-prefers.false))
