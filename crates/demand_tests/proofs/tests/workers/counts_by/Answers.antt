use Rattle.std.proofs.Common.{rules, ◌∙◌, List, [], ◌∷◌, Vec, Global, ap, sym, subst}
use Rattle.market_units.specs.declared.units.Tokens.{Tokens}
use Rattle.demand_api.specs.Crowds.{CrowdData}
use Rattle.demand_api.specs.Views.{data_of}
use Rattle.demand_workers.specs.Rounds.{AreVersionsFor}
use Rattle.demand_tests.proofs.tests.workers.counts_by.Goals as goal

pub counts-requires-clause-prices : goal.counts-requires-clause-prices
counts-requires-clause-prices g c =
    let batch : List (Vec Tokens Global) = c.in_ok-at.field-0 ∷ c.in_ok-at-2.field-0 ∷ c.in_ok-at-3.field-0 ∷ c.in_ok-at-4.field-0 ∷ [] in
    let told : AreVersionsFor (data_of c.deref.result.now) (c.in_ok-at.field-0 ∷ c.in_ok-at-2.field-0 ∷ c.in_ok-at-3.field-0 ∷ c.in_ok-at-4.field-0 ∷ []) =
    c.all_have_prices.ensures (search rules) in
    subst (λ (crowd : CrowdData). AreVersionsFor crowd batch) (ap data_of c.deref.ensures ∙ sym c.make-demands.ensures.crowd) told
