use Rattle.std.proofs.Common.{◌<◌, length, rules, arith}
use Rattle.clearing_error.proofs.Sections.{error_more}
use Rattle.clearing_error.proofs.parts.error.Goals as goal

pub loop-section-preserved : goal.loop-section-preserved
loop-section-preserved c =
    let low : c.loop-section.section < length c.args.counts.now = search rules in
    let more =
    error_more c.args.counts.now c.args.seats.now c.args.prices.now c.loop-section.section 0 0 (record { 0 = 0 }) c.requires.seats c.requires.prices low in (
      omega (arith, more, c.squared_part-error.ensures.value, c.loop-section.invariant.0),
      omega (arith, c.squared_part-error.ensures.small, c.loop-section.invariant.1),
    )
