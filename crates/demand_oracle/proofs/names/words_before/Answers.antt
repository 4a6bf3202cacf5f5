use Rattle.std.proofs.Common.{◌<◌, ◌≤◌, ℕ, length, slice_index, ◌∙◌, arith}
use Rattle.std.proofs.Math.ListN.{length-set}
use Rattle.bundle_rules.proofs.Positions.{place_low}
use Rattle.bundle_rules.specs.Ranks.{place_at}
use Rattle.demand_oracle.proofs.Filling.{position_read, position_low, word_filled, word_passed}
use Rattle.demand_oracle.proofs.names.words_before.Goals as goal

pub bounds-before-from : goal.bounds-before-from
bounds-before-from c =
    let m = c.args.ranked.now.menu.now in
    let few : length m.places ≤ 60 = c.len-place-end.ensures.menu.places.few in
    let low : slice_index c.args.at.now c.from.result < length m.places =
    position_low (length m.places) c.args.ranked.now.order.now c.args.ranked.now.renamed.each_once c.args.at.now c.requires c.loop-place.place c.from.result (omega arith)
    c.from.ensures in
    omega (arith, c.from-in-loop-place.ensures)

pub overflow_shl-earlier : goal.overflow_shl-earlier
overflow_shl-earlier c =
    let m = c.args.ranked.now.menu.now in
    let few : length m.places ≤ 60 = c.len-place-end.ensures.menu.places.few in
    let low : slice_index c.args.at.now c.from.result < length m.places =
    position_low (length m.places) c.args.ranked.now.order.now c.args.ranked.now.renamed.each_once c.args.at.now c.requires c.loop-place.place c.from.result (omega arith)
    c.from.ensures in
    omega arith

pub loop-place-preserved : goal.loop-place-preserved
loop-place-preserved c =
    let m = c.args.ranked.now.menu.now in
    let order = c.args.ranked.now.order.now in
    let each_once = c.args.ranked.now.renamed.each_once in
    let few : length m.places ≤ 60 = c.len-place-end.ensures.menu.places.few in
    let k : ℕ = c.loop-place.place in
    let on : k < length m.places = omega arith in
    let read = position_read (length m.places) order each_once c.args.at.now c.requires k c.from.result on c.from.ensures in
    let low : slice_index c.args.at.now c.from.result < length m.places =
    position_low (length m.places) order each_once c.args.at.now c.requires k c.from.result on c.from.ensures in
    record {
      whole = length-set c.loop-place.before c.from-in-loop-place.result _ ∙ c.loop-place.invariant.whole;
      filled =
          word_filled (length m.places) order each_once k on c.loop-place.before c.loop-place.earlier c.from-in-loop-place.result
          (omega (arith, c.from-in-loop-place.ensures, c.loop-place.invariant.whole)) (c.from-in-loop-place.ensures ∙ read) c.loop-place.invariant.filled
          c.loop-place.invariant.passed;
      passed =
          word_passed (length m.places) order each_once k on c.loop-place.earlier (slice_index c.args.at.now c.from.result) (omega arith) read
          c.loop-place.invariant.passed;
    }

pub returns : goal.returns
returns c p q low_p low_q =
    let m = c.args.ranked.now.menu.now in
    let under : place_at c.args.ranked.now.order.now p < length m.places =
    place_low (length m.places) c.args.ranked.now.order.now p c.args.ranked.now.renamed.each_once low_p in
    c.loop-place.invariant.filled p q low_p low_q (omega arith)
