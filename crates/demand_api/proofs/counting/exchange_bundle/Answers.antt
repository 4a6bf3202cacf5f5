use Rattle.std.proofs.Common.{◌∙◌, length, ap, refl, sym}
use Rattle.bundle_rules.specs.Bundles.{sections_of}
use Rattle.bundle_rules.specs.Ordinals.{ordinals}
use Rattle.demand_api.proofs.Within.{within_at, sections_below}
use Rattle.demand_api.proofs.Tallies.{sections_some, tally_room, tally_exchanged}
use Rattle.demand_api.proofs.counting.exchange_bundle.Goals as goal

pub uncount_bundle-requires-clause-range : goal.uncount_bundle-requires-clause-range
uncount_bundle-requires-clause-range c =
    sections_below (length c.args.counts.now) (length c.args.counts.now) c.sections.result.now (sections_of c.index-bundles-place.result)
    (c.sections.ensures.value ∙ ap sections_of (sym c.index-bundles-place.is))
    (within_at (length c.args.counts.now) c.args.bundles.now c.args.place c.index-bundles-place.result c.requires.tally.within c.requires.place
    c.index-bundles-place.is)
    refl

pub uncount_bundle-requires-clause-counted : goal.uncount_bundle-requires-clause-counted
uncount_bundle-requires-clause-counted c =
    sections_some (length c.args.counts.now) c.args.bundles.now c.args.counts.now c.args.place c.index-bundles-place.result c.sections.result.now
    c.requires.tally c.requires.place c.index-bundles-place.is (c.sections.ensures.value ∙ ap sections_of (sym c.index-bundles-place.is))

pub count_bundle-requires-clause-range : goal.count_bundle-requires-clause-range
count_bundle-requires-clause-range c =
    sections_below (length c.args.counts.now) (length c.uncount_bundle.new.counts) c.sections-2.result.now (sections_of c.args.other)
    c.sections-2.ensures.value c.requires.within c.uncount_bundle.ensures.len

pub count_bundle-requires-clause-room : goal.count_bundle-requires-clause-room
count_bundle-requires-clause-room c =
    tally_room (length c.args.counts.now) c.args.bundles.now c.args.counts.now c.uncount_bundle.new.counts (ordinals c.sections.result.now)
    c.sections-2.result.now (sections_of c.args.other)
    c.requires.tally c.uncount_bundle.ensures.len c.uncount_bundle.ensures.each c.sections-2.ensures.value c.sections-2.ensures.bundle

pub returns-clause-tally : goal.returns-clause-tally
returns-clause-tally c =
    tally_exchanged (length c.args.counts.now) c.args.bundles.now c.args.counts.now c.uncount_bundle.new.counts c.count_bundle.new.counts c.args.place
    c.index-bundles-place.result c.args.other (ordinals c.sections.result.now) (ordinals c.sections-2.result.now)
    c.requires.tally c.requires.place c.index-bundles-place.is (c.sections.ensures.value ∙ ap sections_of (sym c.index-bundles-place.is))
    c.sections-2.ensures.value c.requires.within c.uncount_bundle.ensures.len c.count_bundle.ensures.len c.uncount_bundle.ensures.each
    c.count_bundle.ensures.each
