use Rattle.std.proofs.Common.{◌≡◌, ◌∙◌, map, subst, sym}
use Rattle.bundle_rules.specs.Bundles.{sections_of}
use Rattle.bundle_rules.specs.Demand.{price_in}
use Rattle.demand_api.specs.Asking.{ArePricesFor}
use Rattle.demand_api.specs.Crowds.{CrowdData, demands}
use Rattle.demand_api.specs.Views.{data_of}
use Rattle.tabu_search.specs.Search.{IsFound}
use Rattle.oversubscription_stage.specs.Rounds.{IsSettled}
use Rattle.published_market.proofs.Found.{found_prices}
use Rattle.published_market.proofs.HeldStages.{last_priced}
use Rattle.published_market.proofs.Settled.{settled_prices}
use Rattle.published_market.proofs.publishing.hold_stages.Goals as goal

pub settle-requires-clause-prices : goal.settle-requires-clause-prices
settle-requires-clause-prices g c = λ lifetimes outlives.
    let old = g.D.Demands.crowd c.args.demands.now in
    subst (ArePricesFor (g.D.Demands.crowd c.search.new.demands)) (sym c.deref.ensures.value)
    (subst (λ (crowd : CrowdData). ArePricesFor crowd c.in-Ok.found.prices.items) (sym c.search.ensures.crowd)
    (found_prices old c.args.seats.now c.args.market.now.settings.now c.in-Ok.found.prices.items c.in-Ok.found.error c.in-Ok.found.turns c.in-Ok.ensures.found))

pub aftermarket-requires-clause-prices : goal.aftermarket-requires-clause-prices
aftermarket-requires-clause-prices g c =
    let crowd = data_of c.args.crowd.now in
    let known = c.args.crowd.now.whole in
    let found : IsFound crowd c.args.seats.now c.args.market.now.settings.now c.in-Ok.found.prices.items c.in-Ok.found.error c.in-Ok.found.turns =
    subst
    (λ (asked : CrowdData). IsFound asked c.args.seats.now c.args.market.now.settings.now c.in-Ok.found.prices.items c.in-Ok.found.error
    c.in-Ok.found.turns)
    c.requires.asked c.in-Ok.ensures.found in
    let start =
    found_prices crowd c.args.seats.now c.args.market.now.settings.now c.in-Ok.found.prices.items c.in-Ok.found.error c.in-Ok.found.turns found in
    let settled : IsSettled crowd c.args.seats.now c.in-Ok.found.prices.items c.in_ok-settled.settled.prices.items c.in_ok-settled.settled.rounds =
    subst
    (λ (asked : CrowdData). IsSettled asked c.args.seats.now c.in-Ok.found.prices.items c.in_ok-settled.settled.prices.items
    c.in_ok-settled.settled.rounds)
    (c.search.ensures.crowd ∙ c.requires.asked)
    (rw c.deref.ensures.value at c.in_ok-settled.ensures.value) in
    rw c.deref-2.ensures.value
    (last_priced crowd c.args.seats.now c.in-Ok.found.prices.items c.in_ok-settled.settled.prices.items c.in_ok-settled.settled.rounds known start
    settled)

pub returns-clause-stages : goal.returns-clause-stages
returns-clause-stages g c =
    let crowd = data_of c.args.crowd.now in
    let found : IsFound crowd c.args.seats.now c.args.market.now.settings.now c.in-Ok.found.prices.items c.in-Ok.found.error c.in-Ok.found.turns =
    subst
    (λ (asked : CrowdData). IsFound asked c.args.seats.now c.args.market.now.settings.now c.in-Ok.found.prices.items c.in-Ok.found.error
    c.in-Ok.found.turns)
    c.requires.asked c.in-Ok.ensures.found in
    let start =
    found_prices crowd c.args.seats.now c.args.market.now.settings.now c.in-Ok.found.prices.items c.in-Ok.found.error c.in-Ok.found.turns found in
    let settled : IsSettled crowd c.args.seats.now c.in-Ok.found.prices.items c.in_ok-settled.settled.prices.items c.in_ok-settled.settled.rounds =
    subst
    (λ (asked : CrowdData). IsSettled asked c.args.seats.now c.in-Ok.found.prices.items c.in_ok-settled.settled.prices.items
    c.in_ok-settled.settled.rounds)
    (c.search.ensures.crowd ∙ c.requires.asked)
    (rw c.deref.ensures.value at c.in_ok-settled.ensures.value) in
    let taken : map sections_of c.in_ok-settled.settled.bundles.items ≡ demands crowd (price_in c.in_ok-settled.settled.prices.items) =
    subst (λ (asked : CrowdData). map sections_of c.in_ok-settled.settled.bundles.items ≡ demands asked (price_in c.in_ok-settled.settled.prices.items))
    (c.search.ensures.crowd ∙ c.requires.asked) c.in_ok-settled.ensures.bundles in
    record {
      found = found;
      settled = settled;
      bundles = taken;
      made = rw (c.deref-2.ensures.value, c.deref-3.ensures.value) at c.in_ok-after.ensures.turns;
      held = rw c.deref-3.ensures.value at c.in_ok-after.ensures.bundles;
      used = c.in_ok-after.ensures.used;
      within = c.in_ok-after.ensures.within;
      start_are = start;
      prices_are =
          settled_prices crowd c.args.seats.now c.in-Ok.found.prices.items c.in_ok-settled.settled.prices.items c.in_ok-settled.settled.rounds start
          settled;
    }
