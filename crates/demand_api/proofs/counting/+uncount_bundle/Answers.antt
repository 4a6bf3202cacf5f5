use Rattle.std.proofs.Common.{◌<◌, length}
use Rattle.std.specs.Prelude.{slice_index_or}
use Rattle.demand_api.proofs.Uncounting.{some_left, uncounted_slice}
use Rattle.demand_api.proofs.counting.+uncount_bundle.Goals as goal

pub overflow_sub-counts : goal.overflow_sub-counts
overflow_sub-counts t c =
    let first_low : (slice_index_or c.args.sections.now 0 (record { 0 = 0 })).0 < length c.args.counts.now = c.requires.range 0 _ c.in-len1-up.len_at_least in
    some_left c.args.counts.now c.uncount_bundle.new.counts c.args.sections.now c.from.result c.in-len1-up.len_at_least c.requires.set c.from.ensures
    (c.requires.counted 0 _ c.in-len1-up.len_at_least)
    (c.uncount_bundle.ensures.each (slice_index_or c.args.sections.now 0 (record { 0 = 0 })).0 first_low)

pub returns-in-len1-up-clause-each : goal.returns-in-len1-up-clause-each
returns-in-len1-up-clause-each t c = λ s low.
    let first_low : (slice_index_or c.args.sections.now 0 (record { 0 = 0 })).0 < length c.args.counts.now = c.requires.range 0 _ c.in-len1-up.len_at_least in
    let place_low : c.from.result < length c.uncount_bundle.new.counts = rw (c.from.ensures, c.uncount_bundle.ensures.len) first_low in
    uncounted_slice c.args.counts.now c.uncount_bundle.new.counts c.args.sections.now c.from.result s c.in-len1-up.len_at_least c.requires.set c.from.ensures
    place_low (c.requires.counted 0 _ c.in-len1-up.len_at_least)
    (c.uncount_bundle.ensures.each (slice_index_or c.args.sections.now 0 (record { 0 = 0 })).0 first_low) (c.uncount_bundle.ensures.each s low)
