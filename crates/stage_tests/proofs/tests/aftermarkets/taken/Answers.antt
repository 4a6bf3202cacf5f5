use Rattle.std.proofs.Common.{◌<◌, ◌≤◌, ◌∙◌, length, arith}
use Rattle.std.specs.FinSet as set
use Rattle.std.proofs.lemmas.List.{take_all}
use Rattle.bundle_rules.specs.Bundles.{sections_of}
use Rattle.bundle_rules.specs.Demand.{price_in}
use Rattle.demand_api.specs.Crowds.{demands}
use Rattle.demand_api.specs.Views.{data_of}
use Rattle.demand_api.proofs.Takers.{demands_length, found_demand}
use Rattle.aftermarket_stage.proofs.Crowding.{demands_more, menu_priced}
use Rattle.stage_tests.proofs.tests.aftermarkets.taken.Goals as goal

pub best_plain-bundle-requires : goal.best_plain-bundle-requires
best_plain-bundle-requires c =
    menu_priced c.args.crowd.now c.args.prices.now c.loop-place.place c.index.result.now
    c.requires.prices (omega (arith, c.len-place-end.ensures, c.loop-place-test.true)) c.index.ensures

pub loop-place-preserved : goal.loop-place-preserved
loop-place-preserved c =
    let low : c.loop-place.place < length c.args.crowd.now.menus.items = omega (arith, c.len-place-end.ensures, c.loop-place-test.true) in
    let all = demands (data_of c.args.crowd.now) (price_in c.args.prices.now) in
    let long =
    demands_length c.args.crowd.now (price_in c.args.prices.now) in
    demands_more c.loop-place.bundles.items c.push.new.self.items c.best_plain-bundle.result all c.loop-place.place (rw long low) c.loop-place.invariant
    c.in_ok-push.ensures.items
    (found_demand c.args.crowd.now (price_in c.args.prices.now) c.loop-place.place c.index.result.now c.index-in-loop-place.result.now (set.contains c.full-allowed.result) (sections_of c.best_plain-bundle.result)
    low c.index.ensures c.index-in-loop-place.ensures c.full-allowed.ensures c.best_plain-bundle.ensures)

pub returns : goal.returns
returns c =
    let past : length c.args.crowd.now.menus.items ≤ c.loop-place.place = omega (arith, c.len-place-end.ensures, c.loop-place-test.false) in
    let all = demands (data_of c.args.crowd.now) (price_in c.args.prices.now) in
    let long =
    demands_length c.args.crowd.now (price_in c.args.prices.now) in
    c.loop-place.invariant ∙ take_all c.loop-place.place all (rw long past)
