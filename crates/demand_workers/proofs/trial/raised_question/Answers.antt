use Rattle.std.proofs.Common.{◌<◌, ◌∙◌, ℕ, List, slice_set, ap, sym, subst}
use Rattle.std.specs.Arc.{arc_value}
use Rattle.market_units.specs.declared.units.SectionNo.{SectionNo}
use Rattle.market_units.specs.declared.units.Tokens.{Tokens}
use Rattle.demand_api.specs.Asking.{ArePricesFor}
use Rattle.demand_api.proofs.Parts.{students_length}
use Rattle.demand_workers.specs.Views.{crowd_of}
use Rattle.demand_workers.proofs.HoldersLeave.{raised_prices}
use Rattle.demand_workers.proofs.trial.raised_question.Goals as goal

pub invariant_of-result : goal.invariant_of-result
invariant_of-result c =
    let remembered = c.args.remembered.now in
    let raised : SectionNo × Tokens = c.in-Some.raised in
    let can = c.requires.its_price raised c.in-Some.is in
    record {
      priced =
          subst (ArePricesFor (crowd_of remembered))
          (sym (c.raised_prices-prices.ensures ∙ ap (λ (l : List Tokens). slice_set l raised.0.0 raised.1) c.deref.ensures.value))
          (raised_prices (crowd_of remembered) remembered.prices.items raised.0.0 raised.1.0 remembered.priced can.1);
      listed = subst (λ (n : ℕ). c.args.inquiry.student.0 < n) (students_length (arc_value remembered.crowd)) c.requires.student;
    }
