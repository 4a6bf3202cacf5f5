use Rattle.std.proofs.Common.{◌≡◌, ◌∙◌, length, map, refl, sym, rules}
use Rattle.bundle_rules.specs.Bundles.{sections_of}
use Rattle.demand_api.specs.Views.{data_of}
use Rattle.demand_api.proofs.Parts.{students_length}
use Rattle.aftermarket_stage.specs.After.{turns_of}
use Rattle.market_certificate.specs.Publications.{Publication}
use Rattle.market_certificate.specs.Views.{publication_of}
use Rattle.published_parts.specs.Markets.{seats_in}
use Rattle.published_parts.specs.Views.{market_in}
use Rattle.published_market.specs.Stages.{stages_of}
use Rattle.published_market.proofs.Outcomes.{Tells, outcome_told}
use Rattle.published_market.proofs.Prices.{tokens_of_prices}
use Rattle.published_market.proofs.PublicationRanges.{publication_in_range}
use Rattle.published_market.proofs.Telling.{budgets_told, order_told, seats_count, seats_low, turns_best, used_count}
use Rattle.published_market.proofs.publishing.put_together.Goals as goal

pub prove_turns-requires-clause-best : goal.prove_turns-requires-clause-best
prove_turns-requires-clause-best g c κs within =
    rw (c.deref-5.ensures.value, c.deref-4.ensures.value)
    (turns_best (data_of c.args.crowd.now) (seats_in (market_in c.args.market.now)) c.args.stages.settled.prices.items c.args.market.now.settings.now.raise (map sections_of c.args.stages.settled.bundles.items)
    (turns_of c.args.stages.after.turns.items) c.args.stages.after.passes c.requires.stages.made)

pub used_seats-requires : goal.used_seats-requires
used_seats-requires g c =
    rw c.deref-6.ensures.value
    (used_count c.args.stages.after.used.items (map sections_of c.args.stages.after.bundles.items) c.args.crowd.now.sections
    (length c.all_seats-seats.result.now)
    c.requires.stages.used
    (seats_count c.args.market.now.catalog.now c.all_seats-seats.result.now c.all_seats-seats.ensures ∙ c.requires.sections))

pub returns-clause-outcome : goal.returns-clause-outcome
returns-clause-outcome g c =
    let crowd = data_of c.args.crowd.now in
    let p : Publication = publication_of (record {
      order = c.in_ok-order.order;
      budgets = c.in_ok-budgets.budgets;
      start = c.args.stages.found.prices;
      error = c.args.stages.found.error;
      prices = c.args.stages.settled.prices;
      bundles = c.in_ok-bundles.bundles;
      turns = c.in_ok-turns.turns;
      allocation = c.args.stages.after.bundles;
      used = c.in_ok-used.used;
    }) in
    let copied : c.in_ok-budgets.budgets.items ≡ c.args.crowd.now.budgets.items = search rules in
    let told : Tells crowd (seats_in (market_in c.args.market.now)) c.args.market.now.settings.now (stages_of c.args.stages) p = record {
      budgets = rw copied (budgets_told c.args.crowd.now.menus.items c.args.crowd.now.budgets.items c.args.crowd.now.same);
      start = tokens_of_prices c.args.stages.found.prices.items;
      error = refl;
      prices = tokens_of_prices c.args.stages.settled.prices.items;
      bundles = rw c.deref-2.ensures.value at c.in_ok-bundles.ensures.proved;
      turns = rw (c.deref-4.ensures.value, c.deref-5.ensures.value) at c.in_ok-turns.ensures.published;
      allocation = refl;
      used = rw (c.deref-6.ensures.value, c.all_seats-seats.ensures) at c.in_ok-used.ensures;
    } in
    outcome_told crowd (seats_in (market_in c.args.market.now)) c.args.market.now.settings.now (stages_of c.args.stages) p
    (seats_count c.args.market.now.catalog.now (seats_in (market_in c.args.market.now)) refl ∙ c.requires.sections) c.requires.stages told

pub returns-clause-in_range : goal.returns-clause-in_range
returns-clause-in_range g c = λ tables students sections.
    let crowd = data_of c.args.crowd.now in
    let p : Publication = publication_of (record {
      order = c.in_ok-order.order;
      budgets = c.in_ok-budgets.budgets;
      start = c.args.stages.found.prices;
      error = c.args.stages.found.error;
      prices = c.args.stages.settled.prices;
      bundles = c.in_ok-bundles.bundles;
      turns = c.in_ok-turns.turns;
      allocation = c.args.stages.after.bundles;
      used = c.in_ok-used.used;
    }) in
    let copied : c.in_ok-budgets.budgets.items ≡ c.args.crowd.now.budgets.items = search rules in
    let told : Tells crowd (seats_in (market_in c.args.market.now)) c.args.market.now.settings.now (stages_of c.args.stages) p = record {
      budgets = rw copied (budgets_told c.args.crowd.now.menus.items c.args.crowd.now.budgets.items c.args.crowd.now.same);
      start = tokens_of_prices c.args.stages.found.prices.items;
      error = refl;
      prices = tokens_of_prices c.args.stages.settled.prices.items;
      bundles = rw c.deref-2.ensures.value at c.in_ok-bundles.ensures.proved;
      turns = rw (c.deref-4.ensures.value, c.deref-5.ensures.value) at c.in_ok-turns.ensures.published;
      allocation = refl;
      used = rw (c.deref-6.ensures.value, c.all_seats-seats.ensures) at c.in_ok-used.ensures;
    } in
    publication_in_range crowd (seats_in (market_in c.args.market.now)) c.args.market.now.settings.now (stages_of c.args.stages) p tables
    c.args.crowd.now.whole (seats_count c.args.market.now.catalog.now (seats_in (market_in c.args.market.now)) refl ∙ c.requires.sections)
    (students_length c.args.crowd.now ∙ sym students) (sym sections) c.requires.stages told (record {
      order = order_told c.args.journal.now c.in_ok-order.order.items c.in_ok-order.ensures c.requires.sessions;
      error = search rules;
      bundles = c.in_ok-bundles.ensures.form;
      turns = c.in_ok-turns.ensures.form;
      low = seats_low c.args.market.now.catalog.now (seats_in (market_in c.args.market.now)) refl c.len-few_sections.ensures.kept;
    })
