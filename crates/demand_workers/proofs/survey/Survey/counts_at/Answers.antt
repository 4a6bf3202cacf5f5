use Rattle.std.proofs.Common.{rules, ◌≡◌, ◌<◌, ◌≤◌, ◌+◌, ◌∙◌, ℕ, List, length, slice_index_or, ap, sym, subst, arith}
use Rattle.std.specs.Arc.{arc_value}
use Rattle.std.proofs.lemmas.List.{length-set}
use Rattle.bundle_rules.specs.declared.bundle.Bundle.{Bundle}
use Rattle.bundle_rules.specs.Bundles.{sections_of}
use Rattle.bundle_rules.specs.Demand.{price_in}
use Rattle.demand_api.specs.Crowds.{demand_of}
use Rattle.demand_api.proofs.Takers.{lent_back}
use Rattle.demand_workers.specs.declared.inquiry.Inquiries.{Inquiries}
use Rattle.demand_workers.specs.Found.{tasks_of}
use Rattle.price_board.specs.declared.round.Task.{Task}
use Rattle.demand_workers.specs.declared.remembered.Remembered.{Remembered}
use Rattle.price_board.specs.Tasks.{no_task}
use Rattle.demand_workers.specs.Surveyed.{IsPart}
use Rattle.demand_workers.specs.Views.{crowd_of}
use Rattle.demand_workers.proofs.Exchanging.{IsExchanged, asked_low, exchange_begins, exchange_done, exchange_more, found_then, found_within, prices_then}
use Rattle.demand_workers.proofs.survey.Survey.counts_at.Goals as goal
use Rattle.demand_workers.proofs.survey.Survey.counts_at.Goals.{After-index, After-index-in-part}

-- the version's part of the list
stands : (c : After-index)
    → IsPart (tasks_of c.args.self.now.found.inquiries) (length (tasks_of c.args.self.now.found.inquiries)) c.args.version
    c.index.result.now
stands c =
    subst (IsPart (tasks_of c.args.self.now.found.inquiries) (length (tasks_of c.args.self.now.found.inquiries)) c.args.version)
    (sym c.index.ensures) (c.args.self.now.parted c.args.version c.index.result.now (rw c.args.self.now.each c.requires.version))

pub part-init : goal.part-init
part-init c =
    let copy : c.in_ok-bundles.bundles.items ≡ c.as_slice.result.now = search rules in
    let base : c.in_ok-counted.counted.items ≡ c.args.base.now = search rules in
    let copied : c.in_ok-bundles.bundles.items ≡ (arc_value c.args.self.now.found.inquiries.remembered).bundles.items =
    copy ∙ c.as_slice.ensures.value
    ∙ ap (λ (r : Remembered). r.bundles.items) c.deref.ensures in
    let begun =
    exchange_begins c.args.self.now.found.inquiries c.args.version c.args.self.now.surveyed c.in_ok-bundles.bundles.items
    c.in_ok-counted.counted.items c.args.base.now c.index.result.now c.requires.version (stands c) copied base c.requires.base in
    record { len = begun.len; written = begun.written; tally = begun.tally }

-- the same bundles and counts, as they are given back
exchanged_back : (inquiries : Inquiries) (v place : ℕ) (bundles back : List Bundle) (counted counts_back : List ℕ) → back ≡ bundles → counts_back ≡ counted
    → IsExchanged inquiries v place bundles counted → IsExchanged inquiries v place back counts_back
exchanged_back inquiries v place bundles back counted counts_back same same_counts is =
    subst (λ (b : List Bundle). IsExchanged inquiries v place b counts_back) (sym same)
    (subst (λ (n : List ℕ). IsExchanged inquiries v place bundles n) (sym same_counts) is)

-- what is known of the inquiry that is exchanged
record IsAsked (c : After-index-in-part) : Type 0 where
  inside : c.part.place < length (tasks_of c.args.self.now.found.inquiries)
  its : (slice_index_or (tasks_of c.args.self.now.found.inquiries) c.part.place no_task).student.0 ≡ c.from-student.result
  low : c.from-student.result < length c.part.bundles.items
  taken : sections_of c.index-in-part.result.now
      ≡ demand_of (crowd_of (arc_value c.args.self.now.found.inquiries.remembered))
      (price_in (prices_then c.args.self.now.found.inquiries c.args.version)) c.from-student.result

is_asked : (c : After-index-in-part)
    → IsPart (tasks_of c.args.self.now.found.inquiries) (length (tasks_of c.args.self.now.found.inquiries)) c.args.version
    c.index.result.now
    → IsAsked c
is_asked c part =
    let inquiries : Inquiries = c.args.self.now.found.inquiries in
    let before : c.part.place < c.index.result.now.1 = search rules in
    let within = part.within in
    let inside : c.part.place < length (tasks_of inquiries) = omega (arith, before, within) in
    let listed : c.list.result.now ≡ tasks_of inquiries = c.list.ensures in
    let there : (slice_index_or c.list.result.now c.part.place no_task).version ≡ c.args.version = search rules in
    let at : (slice_index_or (tasks_of inquiries) c.part.place no_task).version ≡ c.args.version =
    ap (λ (l : List Task). (slice_index_or l c.part.place no_task).version) (sym listed) ∙ there in
    let its : (slice_index_or (tasks_of inquiries) c.part.place no_task).student.0 ≡ c.from-student.result =
    ap (λ (l : List Task). (slice_index_or l c.part.place no_task).student.0) (sym listed) ∙ sym c.from-student.ensures in
    record {
      inside = inside;
      its = its;
      low = rw c.part.invariant.len (asked_low inquiries c.args.version c.args.self.now.surveyed c.part.place c.from-student.result inside its);
      taken =
          found_then inquiries c.args.version c.args.self.now.surveyed c.part.place c.from-student.result c.args.self.now.found.bundles.items
          c.index-in-part.result.now c.args.self.now.found.right inside at its c.index-in-part.ensures;
    }

pub exchange_bundle-requires-clause-place : goal.exchange_bundle-requires-clause-place
exchange_bundle-requires-clause-place c =
    let at = goal.at.exchange_bundle-requires-clause-place c in
    rw c.deref_mut-in-part.ensures.value (is_asked at.After-index-in-part (stands at.After-index)).low

pub exchange_bundle-requires-clause-within : goal.exchange_bundle-requires-clause-within
exchange_bundle-requires-clause-within c s is =
    let at = goal.at.exchange_bundle-requires-clause-within c in
    rw (c.deref_mut.ensures.value, c.part.invariant.tally.counted.len)
    (found_within c.args.self.now.found.inquiries c.args.version c.args.self.now.surveyed c.from-student.result c.index-in-part.result.now
    (is_asked at.After-index-in-part (stands at.After-index)).taken s is)

pub part-preserved : goal.part-preserved
part-preserved c =
    let inquiries : Inquiries = c.args.self.now.found.inquiries in
    let at = goal.at.part-preserved c in
    let known = is_asked at.After-index-in-part (stands at.After-index) in
    let more =
    exchange_more inquiries c.args.version c.args.self.now.surveyed c.part.place c.from-student.result (length c.deref_mut.result.now) c.part.bundles.items
    c.deref_mut-in-part.result.now c.exchange_bundle.new.bundles c.part.counted.items c.exchange_bundle.new.counts c.index-in-part.result.now
    (record { len = c.part.invariant.len; written = c.part.invariant.written; tally = c.part.invariant.tally }) c.deref_mut-in-part.ensures.value known.low
    known.its known.taken c.exchange_bundle.ensures.bundles (ap length c.deref_mut.ensures.value ∙ c.part.invariant.tally.counted.len)
    c.exchange_bundle.ensures.tally in
    let bundles_back =
    lent_back c.part.bundles.len c.exchange_bundle.new.bundles c.part.bundles.items
    (sym (ap length c.exchange_bundle.ensures.bundles
    ∙ length-set c.deref_mut-in-part.result.now c.from-student.result c.index-in-part.result.now ∙ c.deref_mut-in-part.ensures.len)) in
    let counted_back =
    lent_back c.part.counted.len c.exchange_bundle.new.counts c.part.counted.items (sym (c.exchange_bundle.ensures.tally.counted.len ∙ c.deref_mut.ensures.len)) in
    let whole = exchanged_back inquiries c.args.version (c.part.place + 1) _ _ _ _ bundles_back counted_back more in
    record { len = whole.len; written = whole.written; tally = whole.tally }

pub returns : goal.returns
returns c =
    let past : c.index.result.now.1 ≤ c.part.place = search rules in
    exchange_done c.args.self.now.found.inquiries c.args.version c.args.self.now.surveyed c.part.place c.part.bundles.items c.part.counted.items
    c.index.result.now (record { len = c.part.invariant.len; written = c.part.invariant.written; tally = c.part.invariant.tally }) (stands (goal.at.returns c).After-index) past
