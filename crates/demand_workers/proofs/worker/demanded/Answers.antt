use Rattle.std.proofs.Common.{◌<◌, ◌∙◌, ℕ, length, ap, sym, subst}
use Rattle.std.specs.FinSet as set
use Rattle.bundle_rules.specs.Bundles.{sections_of}
use Rattle.bundle_rules.specs.Demand.{price_in}
use Rattle.demand_api.specs.Crowds.{demand_of}
use Rattle.demand_api.specs.Views.{data_of}
use Rattle.demand_api.proofs.Takers.{priced_at, found_demand}
use Rattle.demand_workers.proofs.worker.demanded.Goals as goal

pub demand-requires : goal.demand-requires
demand-requires c =
    let lent = c.args.lent.now in
    priced_at lent.crowd.now c.args.prices.now c.from-place.result c.index.result.now c.requires.prices
    (subst (λ (n : ℕ). n < length lent.crowd.now.menus.items) (sym c.from-place.ensures) c.requires.student) c.index.ensures

pub returns : goal.returns
returns c =
    let lent = c.args.lent.now in
    found_demand lent.crowd.now (price_in c.args.prices.now) c.from-place.result
    c.index.result.now _ (set.contains lent.allowed.now) (sections_of c.demand.result)
    (subst (λ (n : ℕ). n < length lent.crowd.now.menus.items) (sym c.from-place.ensures) c.requires.student) c.index.ensures
    c.index-2.ensures lent.every c.demand.ensures
    ∙ ap (λ (n : ℕ). demand_of (data_of lent.crowd.now) (price_in c.args.prices.now) n) c.from-place.ensures
