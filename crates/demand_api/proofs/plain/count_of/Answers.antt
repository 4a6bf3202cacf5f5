use Rattle.std.proofs.Common.{rules, length, ◌<◌, ◌≤◌, ◌≡◌, ◌+◌, ◌∙◌, arith, take, ap}
use Rattle.std.specs.Prelude.{if◌then◌else◌}
use Rattle.std.proofs.lemmas.List.{take_all}
use Rattle.bundle_rules.specs.Bundles.{sections_of}
use Rattle.bundle_rules.specs.Demand.{price_in}
use Rattle.demand_api.proofs.Parts.{menus_few}
use Rattle.demand_api.specs.Crowds.{demands, holders}
use Rattle.demand_api.specs.Views.{data_of}
use Rattle.demand_api.proofs.Takers.{counted, demands_length}
use Rattle.demand_api.proofs.plain.count_of.Goals.{then-has, else-has}
use Rattle.demand_api.proofs.plain.count_of.Goals as goal

pub loop-place-preserved : goal.loop-place-preserved
loop-place-preserved c =
    let low : c.loop-place.place < length c.args.asked.now.crowd.now.menus.items = search rules in
    let all = demands (data_of c.args.asked.now.crowd.now) (price_in c.args.asked.now.prices.now) in
    let long = demands_length c.args.asked.now.crowd.now (price_in c.args.asked.now.prices.now) in
    let step : holders c.args.section.0 (take (c.loop-place.place + 1) all) ≡ c.loop-place.count + (if c.has.result then 1 else 0) =
    counted c.args.section.0 all c.loop-place.place (sections_of c.demand.result) c.has.result c.loop-place.count (rw long low) c.has.ensures c.demand.ensures
    c.loop-place.invariant.0 in
    let few = c.loop-place.invariant.1 in
    elim c.if-has.branch [
      | then-has w ↦ (let s = rw w.if-has.true at step in (omega (arith, s, w.count-is), omega (arith, few, w.count-is)))
      | else-has w ↦ (let s = rw w.if-has.false at step in (omega (arith, s, w.count-is), omega (arith, few, w.count-is)))
    ]

pub returns : goal.returns
returns c =
    let past : length c.args.asked.now.crowd.now.menus.items ≤ c.loop-place.place = search rules in
    let all = demands (data_of c.args.asked.now.crowd.now) (price_in c.args.asked.now.prices.now) in
    let long = demands_length c.args.asked.now.crowd.now (price_in c.args.asked.now.prices.now) in
    c.loop-place.invariant.0 ∙ ap (holders c.args.section.0) (take_all c.loop-place.place all (rw long past))

pub overflow_add-count : goal.overflow_add-count
overflow_add-count c = let few : length c.args.asked.now.crowd.now.menus.items ≤ 2000 = menus_few c.args.asked.now.crowd.now in search rules
