use Rattle.std.proofs.Common.{rules, ◌≡◌, ◌<◌, ◌+◌, ◌-◌, ◌/◌, length, refl, sym, ap, ◌∙◌, slice_set, subst}
use Rattle.std.proofs.lemmas.Bool.{false≢true}
use Rattle.std.specs.Prelude.{slice_index_or}
use Rattle.bundle_rules.specs.Demand.{price_in}
use Rattle.demand_api.specs.Asking.{RoseAtMost}
use Rattle.demand_api.specs.Crowds.{CrowdData, top, count}
use Rattle.demand_api.proofs.Halving.{halving_begins, halvings_begin, halvings_up, halvings_down, rose_by_one, step_up, step_down, halved, trial_again}
use Rattle.demand_api.proofs.Pairs.{calls_fit, inquiries_fit, inquiries_more, least_more, rose_more}
use Rattle.demand_api.proofs.asking.Demands.least_prices.Goals as goal

pub loop-low-init : goal.loop-low-init
loop-low-init g c =
    let crowd = g.Self.Demands.crowd c.args.self.now in
    let halving =
    halving_begins crowd c.args.prices.now c.loop-section.trial.items _ _ _ c.top-high.result.0 c.requires.prices c.loop-section.invariant.trial
    (c.requires.sections c.loop-section.section-index _ c.loop-section-test.true) (rw c.from-place.ensures refl)
    (c.top-high.ensures.value ∙ ap top c.loop-section.invariant.same) in
    record {
      same = refl;
      halving = halving;
      calls = halvings_begin 1 (top crowd) _ _ (g.Self.Demands.asked c.loop-section.self) halving.below_top;
      students = halvings_begin (length crowd.students) (top crowd) _ _ (g.Self.Demands.inquiries c.loop-section.self) halving.below_top;
    }

pub loop-low-preserved-then-branch : goal.loop-low-preserved-then-branch
loop-low-preserved-then-branch g c =
    let crowd = g.Self.Demands.crowd c.args.self.now in
    let pair = slice_index_or c.args.pairs.now c.loop-section.section-index (record { 0 = 0 }, 0) in
    let same : g.Self.Demands.crowd c.loop-low.self ≡ g.Self.Demands.crowd c.args.self.now = c.loop-low.invariant.same ∙ c.loop-section.invariant.same in
    let trial = slice_set c.loop-low.trial.items c.from-place.result (record { 0 = c.loop-low.low + (c.loop-low.high - c.loop-low.low) / 2 }) in
    let more : pair.1 < count crowd (price_in trial) pair.0.0 =
    rw (c.deref.ensures.value, same) at (c.in_ok-exceeds.ensures.value.0 c.if-branch.true) in
    let rose =
    subst (λ (w : CrowdData). RoseAtMost (length w.students) (g.Self.Demands.inquiries c.loop-low.self) (g.Self.Demands.inquiries c.exceeds.new.self)) same
    c.exceeds.ensures.inquiries in
    record {
      same = c.exceeds.ensures.crowd ∙ c.loop-low.invariant.same;
      halving =
          step_up crowd c.args.prices.now c.loop-low.trial.items pair.0.0 c.from-place.result pair.1 c.loop-low.low c.loop-low.high c.loop-low.invariant.halving
          (c.requires.sections c.loop-section.section-index _ c.loop-section-test.true) c.loop-low-test.true c.from-place.ensures more;
      calls = halvings_up 1 (top crowd) c.loop-low.low c.loop-low.high _ _ _ c.loop-low.invariant.calls c.loop-low-test.true
          (rose_by_one (g.Self.Demands.asked c.loop-low.self) (g.Self.Demands.asked c.exceeds.new.self) c.exceeds.ensures.asked);
      students = halvings_up (length crowd.students) (top crowd) c.loop-low.low c.loop-low.high _ _ _ c.loop-low.invariant.students c.loop-low-test.true
          rose;
    }

pub loop-low-preserved : goal.loop-low-preserved
loop-low-preserved g c =
    let crowd = g.Self.Demands.crowd c.args.self.now in
    let pair = slice_index_or c.args.pairs.now c.loop-section.section-index (record { 0 = 0 }, 0) in
    let same : g.Self.Demands.crowd c.loop-low.self ≡ g.Self.Demands.crowd c.args.self.now = c.loop-low.invariant.same ∙ c.loop-section.invariant.same in
    let trial = slice_set c.loop-low.trial.items c.from-place.result (record { 0 = c.loop-low.low + (c.loop-low.high - c.loop-low.low) / 2 }) in
    let few : ¬ (pair.1 < count crowd (price_in trial) pair.0.0) =
    let told = rw (c.deref.ensures.value, same) at c.in_ok-exceeds.ensures.value in λ more. false≢true (sym c.if-branch.false ∙ told.1 more) in
    let rose =
    subst (λ (w : CrowdData). RoseAtMost (length w.students) (g.Self.Demands.inquiries c.loop-low.self) (g.Self.Demands.inquiries c.exceeds.new.self)) same
    c.exceeds.ensures.inquiries in
    record {
      same = c.exceeds.ensures.crowd ∙ c.loop-low.invariant.same;
      halving =
          step_down crowd c.args.prices.now c.loop-low.trial.items pair.0.0 c.from-place.result pair.1 c.loop-low.low c.loop-low.high
          c.loop-low.invariant.halving (c.requires.sections c.loop-section.section-index _ c.loop-section-test.true) c.loop-low-test.true
          c.from-place.ensures few;
      calls = halvings_down 1 (top crowd) c.loop-low.low c.loop-low.high _ _ _ c.loop-low.invariant.calls c.loop-low-test.true
          (rose_by_one (g.Self.Demands.asked c.loop-low.self) (g.Self.Demands.asked c.exceeds.new.self) c.exceeds.ensures.asked);
      students = halvings_down (length crowd.students) (top crowd) c.loop-low.low c.loop-low.high _ _ _ c.loop-low.invariant.students c.loop-low-test.true
          rose;
    }

pub loop-section-preserved : goal.loop-section-preserved
loop-section-preserved g c =
    let crowd = g.Self.Demands.crowd c.args.self.now in
    let pair = slice_index_or c.args.pairs.now c.loop-section.section-index (record { 0 = 0 }, 0) in
    record {
      same = c.loop-low.invariant.same ∙ c.loop-section.invariant.same;
      least =
          least_more crowd (price_in c.args.prices.now) c.args.pairs.now c.loop-section.section-index _ c.loop-section.found.items
          c.push.new.self.items c.loop-low.low c.loop-section-test.true c.loop-section.invariant.least (search rules)
          (halved crowd c.args.prices.now c.loop-low.trial.items pair.0.0 pair.1 c.loop-low.low c.loop-low.high c.loop-low.invariant.halving (search rules));
      calls =
          rose_more (top crowd) c.loop-section.section-index (g.Self.Demands.asked c.args.self.now) (g.Self.Demands.asked c.loop-section.self)
          (g.Self.Demands.asked c.loop-low.self) c.loop-low.low c.loop-low.high c.loop-section.invariant.calls c.loop-low.invariant.calls;
      students =
          inquiries_more (top crowd) (length crowd.students) c.loop-section.section-index (g.Self.Demands.inquiries c.args.self.now)
          (g.Self.Demands.inquiries c.loop-section.self) (g.Self.Demands.inquiries c.loop-low.self) c.loop-low.low c.loop-low.high
          c.loop-section.invariant.students c.loop-low.invariant.students;
      trial =
          trial_again crowd c.args.prices.now c.loop-low.trial.items pair.0.0 c.from-place.result pair.1 c.loop-low.low c.loop-low.high _ c.requires.prices
          c.loop-low.invariant.halving (c.requires.sections c.loop-section.section-index _ c.loop-section-test.true) c.from-place.ensures;
    }

pub returns-in_err-exceeds-clause-inquiries : goal.returns-in_err-exceeds-clause-inquiries
returns-in_err-exceeds-clause-inquiries g c =
    let crowd = g.Self.Demands.crowd c.args.self.now in
    let same : g.Self.Demands.crowd c.loop-low.self ≡ g.Self.Demands.crowd c.args.self.now = c.loop-low.invariant.same ∙ c.loop-section.invariant.same in
    inquiries_fit (top crowd) (length crowd.students) c.loop-section.section-index (length c.args.pairs.now) (g.Self.Demands.inquiries c.args.self.now)
    (g.Self.Demands.inquiries c.loop-section.self) (g.Self.Demands.inquiries c.exceeds.new.self) _ _ c.loop-section-test.true c.loop-section.invariant.students
    (halvings_down (length crowd.students) (top crowd) c.loop-low.low c.loop-low.high _ _ _ c.loop-low.invariant.students c.loop-low-test.true
    (subst (λ (w : CrowdData). RoseAtMost (length w.students) (g.Self.Demands.inquiries c.loop-low.self) (g.Self.Demands.inquiries c.exceeds.new.self)) same
    c.exceeds.ensures.inquiries))

pub returns-in_err-push-clause-asked : goal.returns-in_err-push-clause-asked
returns-in_err-push-clause-asked g c =
    calls_fit (top (g.Self.Demands.crowd c.args.self.now)) c.loop-section.section-index (length c.args.pairs.now) (g.Self.Demands.asked c.args.self.now)
    (g.Self.Demands.asked c.loop-section.self) (g.Self.Demands.asked c.loop-low.self) _ _ c.loop-section-test.true c.loop-section.invariant.calls
    c.loop-low.invariant.calls

pub returns-in_err-push-clause-inquiries : goal.returns-in_err-push-clause-inquiries
returns-in_err-push-clause-inquiries g c =
    let crowd = g.Self.Demands.crowd c.args.self.now in
    inquiries_fit (top crowd) (length crowd.students) c.loop-section.section-index (length c.args.pairs.now) (g.Self.Demands.inquiries c.args.self.now)
    (g.Self.Demands.inquiries c.loop-section.self) (g.Self.Demands.inquiries c.loop-low.self) _ _ c.loop-section-test.true c.loop-section.invariant.students
    c.loop-low.invariant.students
