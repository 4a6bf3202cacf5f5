use Rattle.std.proofs.Common.{[], ◌≡◌, ◌<◌, ◌∙◌, length, ap, sym, arith}
use Rattle.std.specs.FinSet as set
use Rattle.std.proofs.lemmas.List.{get_or-map}
use Rattle.bundle_rules.specs.Bundles.{sections_of}
use Rattle.bundle_rules.specs.Demand.{price_in}
use Rattle.bundle_rules.proofs.BestValue.{best-only}
use Rattle.demand_api.proofs.Takers.{priced_at}
use Rattle.published_market.proofs.Rooming.{taken_inside}
use Rattle.published_market.proofs.Showing.{offer_read, taken_best}
use Rattle.published_market.proofs.bundles.TakenBestBundles.best.Goals as goal

pub index-menu-requires : goal.index-menu-requires
index-menu-requires c =
    let inside : c.args.place < length c.args.self.now.crowd.now.menus.items = taken_inside c.args.self.now c.args.place c.requires in
    omega arith

pub index-budget-requires : goal.index-budget-requires
index-budget-requires c =
    let inside : c.args.place < length c.args.self.now.crowd.now.menus.items = taken_inside c.args.self.now c.args.place c.requires in
    let same : length c.args.self.now.crowd.now.budgets.items ≡ length c.args.self.now.crowd.now.menus.items = c.args.self.now.crowd.now.same in
    omega arith

pub invariant_of-result : goal.invariant_of-result
invariant_of-result c =
    let taken = c.args.self.now in
    record {
      priced = priced_at taken.crowd.now taken.prices.now c.args.place c.index-menu.result.now taken.priced (taken_inside taken c.args.place c.requires) c.index-menu.ensures;
      best =
          best-only c.index-menu.result.now (price_in taken.prices.now) c.index-budget.result.now.0 (set.contains taken.allowed.now)
          (sections_of c.index-bundles-place.result)
          (taken_best taken.crowd.now taken.prices.now taken.bundles.now c.args.place c.index-menu.result.now c.index-budget.result.now
          c.index-bundles-place.result (set.contains taken.allowed.now) taken.taken c.requires c.index-menu.ensures c.index-budget.ensures
          c.index-bundles-place.is taken.all);
    }

pub returns-clause-offer : goal.returns-clause-offer
returns-clause-offer c =
    let taken = c.args.self.now in
    offer_read taken.crowd.now taken.prices.now c.args.place c.index-menu.result.now c.index-budget.result.now (set.contains taken.allowed.now)
    (taken_inside taken c.args.place c.requires) c.index-menu.ensures c.index-budget.ensures taken.all

pub returns-clause-bundle : goal.returns-clause-bundle
returns-clause-bundle c =
    ap sections_of c.index-bundles-place.is
    ∙ sym (get_or-map sections_of c.args.self.now.bundles.now c.args.place c.index-bundles-place.result [] c.requires)
