use Rattle.std.proofs.Common.{◌<◌, length, map, sym, arith, rules}
use Rattle.std.proofs.lemmas.List.{length-map}
use Rattle.bundle_rules.specs.Bundles.{sections_of}
use Rattle.demand_api.proofs.Takers.{counts_fit, counts_more}
use Rattle.demand_api.proofs.Within.{read_at, within_at, sections_below}
use Rattle.demand_api.proofs.counting.count_bundles.Goals as goal

pub count_bundle-requires-clause-range : goal.count_bundle-requires-clause-range
count_bundle-requires-clause-range c =
    let low : c.loop-bundle.bundle-index < length c.args.bundles.now = search rules in
    rw c.deref_mut.ensures.value (sections_below c.args.sections (length c.loop-bundle.counts.items) c.sections.result.now (sections_of c.bundle-item.result) c.sections.ensures.value
    (within_at c.args.sections c.args.bundles.now c.loop-bundle.bundle-index c.bundle-item.result c.requires.within low c.bundle-item.is) c.loop-bundle.invariant.len)

pub count_bundle-requires-clause-room : goal.count_bundle-requires-clause-room
count_bundle-requires-clause-room c =
    let low : c.loop-bundle.bundle-index < length c.args.bundles.now = search rules in
    let few = c.requires.few in
    counts_fit c.args.sections (map sections_of c.args.bundles.now) c.loop-bundle.bundle-index c.loop-bundle.counts.items c.deref_mut.result.now
    c.sections.result.now (sections_of c.bundle-item.result)
    c.loop-bundle.invariant c.deref_mut.ensures.value (omega (arith, few, low)) c.sections.ensures.value c.sections.ensures.bundle

pub loop-bundle-preserved : goal.loop-bundle-preserved
loop-bundle-preserved c =
    let low : c.loop-bundle.bundle-index < length c.args.bundles.now = search rules in
    let low_map : c.loop-bundle.bundle-index < length (map sections_of c.args.bundles.now) = rw (length-map c.args.bundles.now sections_of) low in
    counts_more c.args.sections (map sections_of c.args.bundles.now) c.loop-bundle.bundle-index c.loop-bundle.counts.len c.loop-bundle.counts.items
    c.deref_mut.result.now c.count_bundle.new.counts c.sections.result.now (sections_of c.bundle-item.result)
    c.loop-bundle.invariant c.deref_mut.ensures.value low_map c.sections.ensures.value
    (sym (read_at c.args.bundles.now c.loop-bundle.bundle-index c.bundle-item.result low c.bundle-item.is)) (search rules) c.count_bundle.ensures.len
    c.count_bundle.ensures.each
