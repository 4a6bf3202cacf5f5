use Rattle.std.proofs.Common.{rules, ◌≡◌, ◌∙◌, length, sym}
use Rattle.std.proofs.lemmas.Bool.{false≢true}
use Rattle.demand_api.specs.Crowds.{top}
use Rattle.demand_api.proofs.Halving.{halved, halvings_begin, halvings_down, halvings_up, step_down, step_up}
use Rattle.demand_workers.specs.Views.{crowd_of}
use Rattle.demand_workers.proofs.Halved.{asked_as, halving_from, halvings_rose}
use Rattle.demand_workers.proofs.walks.Asker+AnyGate.halved.Goals as goal

pub loop-low-init : goal.loop-low-init
loop-low-init g c =
    let remembered = c.args.known.now in
    let crowd = crowd_of c.args.known.now in
    let copied : c.in_ok-trial.trial.items ≡ c.args.known.now.prices.items = search rules in
    let at_top : c.top-high.result.0 ≡ top (crowd_of c.args.known.now) = search rules in
    let halving =
    halving_from crowd remembered.prices.items c.in_ok-trial.trial.items c.args.pair.0.0 c.args.pair.1 c.args.from.0 c.top-high.result.0 remembered.priced
    copied at_top c.requires.low c.requires.high c.requires.lower in
    record {
      halving = halving;
      students = halvings_begin (length crowd.students) (top crowd) _ _ c.args.inquiries.now halving.below_top;
    }

pub loop-low-preserved-then-branch : goal.loop-low-preserved-then-branch
loop-low-preserved-then-branch g c =
    let crowd = crowd_of c.args.known.now in
    record {
      halving =
          step_up crowd c.args.known.now.prices.items c.loop-low.trial.items c.args.pair.0.0 c.from-place.result c.args.pair.1 c.loop-low.low
          c.loop-low.high c.loop-low.invariant.halving c.requires.section c.loop-low-test.true c.from-place.ensures
          (asked_as crowd _ _ c.args.pair.1 c.args.pair.0.0 c.deref-in-loop-low.ensures.value (c.in_ok-is_exceeded.ensures.value.0 c.if-branch.true));
      students = halvings_up (length crowd.students) (top crowd) c.loop-low.low c.loop-low.high _ _ _ c.loop-low.invariant.students c.loop-low-test.true
          c.is_exceeded.ensures.inquiries;
    }

pub loop-low-preserved : goal.loop-low-preserved
loop-low-preserved g c =
    let crowd = crowd_of c.args.known.now in
    record {
      halving =
          step_down crowd c.args.known.now.prices.items c.loop-low.trial.items c.args.pair.0.0 c.from-place.result c.args.pair.1 c.loop-low.low
          c.loop-low.high c.loop-low.invariant.halving c.requires.section c.loop-low-test.true c.from-place.ensures
          (λ more. false≢true
          (sym c.if-branch.false
          ∙ c.in_ok-is_exceeded.ensures.value.1
          (asked_as crowd _ _ c.args.pair.1 c.args.pair.0.0 (sym c.deref-in-loop-low.ensures.value) more)));
      students = halvings_down (length crowd.students) (top crowd) c.loop-low.low c.loop-low.high _ _ _ c.loop-low.invariant.students c.loop-low-test.true
          c.is_exceeded.ensures.inquiries;
    }

pub returns-clause-inquiries : goal.returns-clause-inquiries
returns-clause-inquiries g c digits fits =
    let crowd = crowd_of c.args.known.now in
    halvings_rose (length crowd.students) (top crowd) c.loop-low.low c.loop-low.high _ _ digits c.loop-low.invariant.students fits

pub returns-clause-least : goal.returns-clause-least
returns-clause-least g c =
    halved (crowd_of c.args.known.now) c.args.known.now.prices.items c.loop-low.trial.items c.args.pair.0.0 c.args.pair.1
    c.loop-low.low c.loop-low.high c.loop-low.invariant.halving (search rules)

pub returns-in_err-is_exceeded-clause-inquiries : goal.returns-in_err-is_exceeded-clause-inquiries
returns-in_err-is_exceeded-clause-inquiries g c digits fits =
    let crowd = crowd_of c.args.known.now in
    halvings_rose (length crowd.students) (top crowd) c.loop-low.low _ c.args.inquiries.now c.is_exceeded.new.inquiries digits
    (halvings_down (length crowd.students) (top crowd) c.loop-low.low c.loop-low.high _ _ _ c.loop-low.invariant.students c.loop-low-test.true
    c.is_exceeded.ensures.inquiries)
    fits
