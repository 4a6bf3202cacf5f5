use Rattle.std.proofs.Common.{◌<◌, ◌∙◌, length, take, rules, ap, subst, sym}
use Rattle.std.specs.Prelude.{slice_index_or, slice_set}
use Rattle.demand_api.specs.Counting.{IsTally}
use Rattle.demand_api.proofs.Within.{within_at}
use Rattle.own_price.specs.Exchanges.{exchanged}
use Rattle.own_price.proofs.Exchanging.{exchanged_more}
use Rattle.own_price.proofs.exchange.exchange_all.Goals as goal

pub exchange_bundle-requires-clause-within : goal.exchange_bundle-requires-clause-within
exchange_bundle-requires-clause-within c = λ s has_it.
    let low : c.loop-place.place < length c.args.students.now = search rules in
    rw c.loop-place.invariant.1.counted.len
    (within_at (length c.args.counts.now) c.args.others.now c.loop-place.place c.index-others-place.result c.requires.within (rw c.requires.same low)
    c.index-others-place.is s has_it)

pub loop-place-preserved : goal.loop-place-preserved
loop-place-preserved c =
    let low : c.loop-place.place < length c.args.students.now = search rules in
    let student = slice_index_or c.args.students.now c.loop-place.place (record { 0 = 0 }) in
    let so_far = exchanged c.args.bundles.now (take c.loop-place.place c.args.students.now) (take c.loop-place.place c.args.others.now) in (
      c.exchange_bundle.ensures.bundles
          ∙ ap (λ i. slice_set c.loop-place.bundles i c.index-others-place.result) c.from-student.ensures
          ∙ ap (λ bundles. slice_set bundles student.0 c.index-others-place.result) c.loop-place.invariant.0
          ∙ ap (slice_set so_far student.0) c.index-others-place.is
          ∙ sym
          (exchanged_more c.args.bundles.now c.args.students.now c.args.others.now c.loop-place.place (record { 0 = 0 }) c.index-others-place.result low
          c.requires.same),
      subst (λ n. IsTally n c.exchange_bundle.new.bundles c.exchange_bundle.new.counts) c.loop-place.invariant.1.counted.len c.exchange_bundle.ensures.tally,
    )
