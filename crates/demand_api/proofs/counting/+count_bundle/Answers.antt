use Rattle.std.proofs.Common.{◌<◌, length}
use Rattle.std.proofs.lemmas.List.{length-set}
use Rattle.demand_api.proofs.Bundles.{counted_slice}
use Rattle.demand_api.proofs.counting.+count_bundle.Goals as goal

pub returns-in-len1-up-clause-each : goal.returns-in-len1-up-clause-each
returns-in-len1-up-clause-each t c = λ s low.
    let place_low : c.from.result < length c.args.counts.now = rw c.from.ensures (c.requires.range 0 _ c.in-len1-up.len_at_least) in
    counted_slice c.args.counts.now c.count_bundle.new.counts c.args.sections.now c.from.result s c.in-len1-up.len_at_least c.requires.set c.from.ensures
    place_low
    (c.count_bundle.ensures.each s (rw (length-set c.args.counts.now c.from.result _) low))
