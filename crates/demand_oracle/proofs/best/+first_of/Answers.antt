use Rattle.std.proofs.Common.{◌≡◌, map, inl, sym, subst, ap}
use Rattle.plain_facts.proofs.Lists.{first_rest}
use Rattle.bundle_rules.specs.Bundles.{sections_of}
use Rattle.bundle_rules.specs.Demand.{IsPriced}
use Rattle.bundle_rules.proofs.Ends.{all_of_ordinals}
use Rattle.market_units.specs.Members.{has}
use Rattle.std.proofs.Common.{true}
use Rattle.demand_oracle.specs.Bests.{IsAmong}
use Rattle.demand_oracle.proofs.best.+first_of.Goals as goal

pub price_of-requires-clause-priced : goal.price_of-requires-clause-priced
price_of-requires-clause-priced t c =
    let whole = first_rest c.args.bundles.now c.first-item.result c.in-len1-up.len_at_least in
    let among = subst (λ bs. IsAmong (sections_of c.first-item.result) (map sections_of bs)) (sym whole) (inl (ap sections_of c.first-item.is)) in
    all_of_ordinals (IsPriced c.args.prices.now) c.sections.result.now
    (λ s is. c.requires (sections_of c.first-item.result) among s (subst (λ b. has b s ≡ true) c.sections.ensures.value is))
