use Rattle.std.proofs.Common.{◌≡◌, true, subst}
use Rattle.market_units.specs.Members.{has}
use Rattle.bundle_rules.specs.Bundles.{sections_of}
use Rattle.bundle_rules.specs.Demand.{IsPriced}
use Rattle.bundle_rules.proofs.Ends.{all_of_ordinals}
use Rattle.certificate_checker.proofs.Reading.{so_of_has}
use Rattle.certificate_checker.proofs.bundles.is_affordable.Goals as goal

pub price_of-requires-clause-priced : goal.price_of-requires-clause-priced
price_of-requires-clause-priced c =
    all_of_ordinals (IsPriced c.args.prices.now) c.sections.result.now
    (λ s is. so_of_has (IsPriced c.args.prices.now) (sections_of c.args.bundle.now) c.requires s (subst (λ xs. has xs s ≡ true) c.sections.ensures.value is))
