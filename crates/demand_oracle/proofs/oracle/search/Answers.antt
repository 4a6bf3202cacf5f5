use Rattle.std.proofs.Common.{◌≡◌, ◌<◌, ◌∷◌, [], ℕ, Option, None, Some, true, List, length, sym, subst, ◌∙◌}
use Rattle.std.specs.Prelude.{IfSome, IfNone}
use Rattle.std.specs.FinSet as set
use Rattle.bundle_rules.specs.Demand.{price_in}
use Rattle.bundle_rules.specs.Menus.{section_at}
use Rattle.bundle_rules.specs.Ranks.{place_at}
use Rattle.bundle_bounds.specs.Laws.{IsTakable}
use Rattle.bundle_bounds.specs.Offers.{offer_of}
use Rattle.demand_oracle.specs.Bests.{IsAmong}
use Rattle.demand_oracle.specs.BestViews.{bundles_of}
use Rattle.demand_oracle.specs.Champions.{kept_of}
use Rattle.demand_oracle.specs.Search.{LeadAim, LeadWanted, bundles_kept, wanted_by}
use Rattle.demand_oracle.proofs.Translating.{given_on_menu, given_alone, lead_here, all_wanted_here}
use Rattle.demand_oracle.proofs.oracle.search.Goals as goal

pub prices_in_order-prices-requires : goal.prices_in_order-prices-requires
prices_in_order-prices-requires c = c.ranked-ranked.ensures ∙ c.requires.menu

pub allowed_in_order-allowed-requires : goal.allowed_in_order-allowed-requires
allowed_in_order-allowed-requires c = c.ranked-ranked.ensures ∙ c.requires.menu

pub given_in_order-given-requires : goal.given_in_order-given-requires
given_in_order-given-requires c = c.ranked-ranked.ensures ∙ c.requires.menu

pub invariant_of-renamed : goal.invariant_of-renamed
invariant_of-renamed c =
    let ranked = c.ranked-ranked.result in
    let asked = c.args.asked.now in
    let m = ranked.menu.now in
    let same : m ≡ asked.offer.now.menu.now = c.ranked-ranked.ensures ∙ c.requires.menu in
    let on = subst (λ d. IfSome asked.given (λ k. k < length d.places)) (sym same) asked.on_menu in
    let alone =
    subst
    (λ d. IfSome asked.given (λ k. IsTakable (offer_of d asked.offer.now.prices.now asked.offer.now.budget.0 asked.offer.now.allowed.now) (section_at d.places k ∷ [])))
    (sym same) asked.alone in
    record {
      on_menu =
          rw c.given_in_order-given.ensures
          (given_on_menu ranked.order.now m ranked.rows.now c.len.ensures.menu c.len-2.ensures.menu ranked.renamed (price_in c.prices_in_order-prices.result)
          (price_in asked.offer.now.prices.now) asked.offer.now.budget.0 (set.contains c.allowed_in_order-allowed.result)
          (set.contains asked.offer.now.allowed.now) c.prices_in_order-prices.ensures.each c.allowed_in_order-allowed.ensures asked.given on);
      alone =
          rw c.given_in_order-given.ensures
          (given_alone ranked.order.now m ranked.rows.now c.len.ensures.menu c.len-2.ensures.menu ranked.renamed (price_in c.prices_in_order-prices.result)
          (price_in asked.offer.now.prices.now) asked.offer.now.budget.0 (set.contains c.allowed_in_order-allowed.result)
          (set.contains asked.offer.now.allowed.now) c.prices_in_order-prices.ensures.each c.allowed_in_order-allowed.ensures asked.given on alone);
    }

pub named_best-requires-clause-rated : goal.named_best-requires-clause-rated
named_best-requires-clause-rated c bundle among = (c.found-best.ensures.leads.takable bundle among).feasible.rated

pub returns-clause-leads : goal.returns-clause-leads
returns-clause-leads c =
    let ranked = c.ranked-ranked.result in
    let asked = c.args.asked.now in
    let order = ranked.order.now in
    let m = ranked.menu.now in
    let r = ranked.rows.now in
    let found = bundles_kept (kept_of c.found-best.result) in
    let there = offer_of r c.prices_in_order-prices.result asked.offer.now.budget.0 c.allowed_in_order-allowed.result in
    let same : m ≡ asked.offer.now.menu.now = c.ranked-ranked.ensures ∙ c.requires.menu in
    let on = subst (λ d. IfSome asked.given (λ k. k < length d.places)) (sym same) asked.on_menu in
    let lead =
    subst (λ given. LeadAim there (record { wanted = wanted_by r given; name = place_at order }) found) c.given_in_order-given.ensures
    (subst (λ name. LeadAim there (record { wanted = wanted_by r c.given_in_order-given.result; name = name }) found) c.of-names.ensures.names c.found-best.ensures.leads) in
    subst
    (λ d. LeadWanted (offer_of d asked.offer.now.prices.now asked.offer.now.budget.0 asked.offer.now.allowed.now) (wanted_by d asked.given)
    (bundles_of c.named_best.result))
    c.ranked-ranked.ensures
    (subst (LeadWanted (offer_of m asked.offer.now.prices.now asked.offer.now.budget.0 asked.offer.now.allowed.now) (wanted_by m asked.given)) (sym c.named_best.ensures)
    (lead_here order m r c.len.ensures.menu c.len-2.ensures.menu ranked.renamed (price_in c.prices_in_order-prices.result)
    (price_in asked.offer.now.prices.now) asked.offer.now.budget.0 (set.contains c.allowed_in_order-allowed.result) (set.contains asked.offer.now.allowed.now)
    c.prices_in_order-prices.ensures.each c.allowed_in_order-allowed.ensures asked.given on found lead))

-- where no first bundle is told there is no word of one
told_none : {A : Type 0} {P Q : Type 0} → (first : Option A) → (word : Option ℕ) → IfNone first (word ≡ None) → (P → Q) → IfNone word P → IfNone first Q
told_none None word none f p = f (rw none at p)
told_none (Some x) word none f p = tt

pub returns-clause-wanted : goal.returns-clause-wanted
returns-clause-wanted c =
    let ranked = c.ranked-ranked.result in
    let asked = c.args.asked.now in
    let order = ranked.order.now in
    let m = ranked.menu.now in
    let r = ranked.rows.now in
    let found = bundles_kept (kept_of c.found-best.result) in
    let there = offer_of r c.prices_in_order-prices.result asked.offer.now.budget.0 c.allowed_in_order-allowed.result in
    let same : m ≡ asked.offer.now.menu.now = c.ranked-ranked.ensures ∙ c.requires.menu in
    let on = subst (λ d. IfSome asked.given (λ k. k < length d.places)) (sym same) asked.on_menu in
    let lead =
    subst (λ given. LeadAim there (record { wanted = wanted_by r given; name = place_at order }) found) c.given_in_order-given.ensures
    (subst (λ name. LeadAim there (record { wanted = wanted_by r c.given_in_order-given.result; name = name }) found) c.of-names.ensures.names c.found-best.ensures.leads) in
    told_none c.args.first c.positions_of-word.result c.positions_of-word.ensures
    (λ fits.
    subst (λ d. (bundle : List ℕ) → IsAmong bundle (bundles_of c.named_best.result) → wanted_by d asked.given bundle ≡ true) c.ranked-ranked.ensures
    (subst (λ bs. (bundle : List ℕ) → IsAmong bundle bs → wanted_by m asked.given bundle ≡ true) (sym c.named_best.ensures)
    (all_wanted_here order m r c.len.ensures.menu c.len-2.ensures.menu ranked.renamed (price_in c.prices_in_order-prices.result)
    (price_in asked.offer.now.prices.now) asked.offer.now.budget.0 (set.contains c.allowed_in_order-allowed.result) (set.contains asked.offer.now.allowed.now)
    c.prices_in_order-prices.ensures.each c.allowed_in_order-allowed.ensures asked.given on found lead
    (subst (λ given. (bundle : List ℕ) → IsAmong bundle found → wanted_by r given bundle ≡ true) c.given_in_order-given.ensures fits))))
    c.found-best.ensures.wanted
