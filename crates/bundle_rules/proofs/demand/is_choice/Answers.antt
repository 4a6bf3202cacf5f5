use Rattle.std.proofs.Common.{◌≡◌, ◌<◌, ◌≤◌, true, sym, subst, ◌∙◌, ap}
use Rattle.std.specs.FinSet as set
use Rattle.market_units.specs.Totals.{total}
use Rattle.market_units.specs.Members.{has}
use Rattle.bundle_rules.specs.Bundles.{sections_of}
use Rattle.bundle_rules.specs.Demand.{IsPriced, price_in}
use Rattle.bundle_rules.proofs.Ends.{all_of_ordinals, ordinals_of_all}
use Rattle.bundle_rules.proofs.Choices.{priced, below_400}
use Rattle.bundle_rules.proofs.demand.is_choice.Goals as goal

pub price_of-requires-clause-priced : goal.price_of-requires-clause-priced
price_of-requires-clause-priced c =
    all_of_ordinals (IsPriced c.args.terms.now.prices.now) c.sections.result.now
    (λ s is. priced c.args.terms.now.menu.now c.args.terms.now.prices.now (sections_of c.args.bundle.now) c.args.terms.now.priced
    (c.feasible.ensures.0 c.if-not-feasible.false).rated s
    (subst (λ xs. has xs s ≡ true) c.sections.ensures.value is))

pub all_allowed-requires : goal.all_allowed-requires
all_allowed-requires c =
    all_of_ordinals (λ s. s < 400) c.sections-2.result.now
    (λ s is. below_400 c.args.terms.now.menu.now (sections_of c.args.bundle.now) c.len.ensures.menu (c.feasible.ensures.0 c.if-not-feasible.false).rated s
    (subst (λ xs. has xs s ≡ true) c.sections-2.ensures.value is))

pub returns : goal.returns
returns c =
    let feasible = c.feasible.ensures.0 c.if-not-feasible.false in
    let price : c.price_of.result ≡ total (price_in c.args.terms.now.prices.now) (sections_of c.args.bundle.now) =
    c.price_of.ensures.value ∙ ap (total (price_in c.args.terms.now.prices.now)) c.sections.ensures.value in (
      (λ yes'. record {
        feasible = feasible;
        affordable = subst (λ n. n ≤ c.args.terms.now.budget.0) price c.if-price_of-terms.false;
        within =
            λ s is. ordinals_of_all (λ t. set.contains c.args.terms.now.allowed.now t ≡ true) c.sections-2.result.now (c.all_allowed.ensures.0 yes') s
            (subst (λ xs. has xs s ≡ true) (sym c.sections-2.ensures.value) is);
      }),
      (λ is. c.all_allowed.ensures.1
          (all_of_ordinals (λ t. set.contains c.args.terms.now.allowed.now t ≡ true) c.sections-2.result.now
          (λ s in_it. is.within s (subst (λ xs. has xs s ≡ true) c.sections-2.ensures.value in_it)))),
    )
