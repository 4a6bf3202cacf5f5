use Rattle.std.proofs.Common.{◌<◌, ◌≤◌, length, rules, arith}
use Rattle.bundle_rules.specs.Bundles.{sections_of}
use Rattle.bundle_rules.specs.Demand.{price_in}
use Rattle.demand_api.specs.Crowds.{demands}
use Rattle.demand_api.specs.Views.{data_of}
use Rattle.demand_api.proofs.Parts.{menus_few}
use Rattle.demand_api.proofs.Takers.{counts_room, counts_more, counts_done, sections_low, demands_length}
use Rattle.demand_api.proofs.plain.counts_at.Goals as goal

pub count_bundle-requires-clause-range : goal.count_bundle-requires-clause-range
count_bundle-requires-clause-range c =
    rw c.deref_mut.ensures.value (sections_low (data_of c.args.asked.now.crowd.now) (price_in c.args.asked.now.prices.now) c.loop-place.place _ c.sections.result.now (sections_of c.demand-bundle.result)
    c.sections.ensures.value c.demand-bundle.ensures c.loop-place.invariant.len)

pub count_bundle-requires-clause-room : goal.count_bundle-requires-clause-room
count_bundle-requires-clause-room c =
    let few = menus_few c.args.asked.now.crowd.now in
    let low : c.loop-place.place < length c.args.asked.now.crowd.now.menus.items = search rules in
    counts_room c.args.asked.now.crowd.now.sections
    (demands (data_of c.args.asked.now.crowd.now) (price_in c.args.asked.now.prices.now))
    c.loop-place.place c.loop-place.counts.items c.deref_mut.result.now c.sections.result.now (sections_of c.demand-bundle.result)
    c.loop-place.invariant c.deref_mut.ensures.value (omega (arith, few, low)) c.sections.ensures.value c.sections.ensures.bundle

pub loop-place-preserved : goal.loop-place-preserved
loop-place-preserved c =
    let low : c.loop-place.place < length c.args.asked.now.crowd.now.menus.items = search rules in
    let long = demands_length c.args.asked.now.crowd.now (price_in c.args.asked.now.prices.now) in
    counts_more c.args.asked.now.crowd.now.sections
    (demands (data_of c.args.asked.now.crowd.now) (price_in c.args.asked.now.prices.now))
    c.loop-place.place c.loop-place.counts.len c.loop-place.counts.items c.deref_mut.result.now c.count_bundle.new.counts c.sections.result.now
    (sections_of c.demand-bundle.result)
    c.loop-place.invariant c.deref_mut.ensures.value (rw long low) c.sections.ensures.value c.demand-bundle.ensures (search rules) c.count_bundle.ensures.len
    c.count_bundle.ensures.each

pub returns : goal.returns
returns c =
    let past : length c.args.asked.now.crowd.now.menus.items ≤ c.loop-place.place = search rules in
    let long = demands_length c.args.asked.now.crowd.now (price_in c.args.asked.now.prices.now) in
    counts_done (data_of c.args.asked.now.crowd.now) (price_in c.args.asked.now.prices.now) c.loop-place.place
    c.loop-place.counts.items (rw long past) c.loop-place.invariant
