use Rattle.std.proofs.Common.{[], ◌∷◌, arith, refl}
use Rattle.std.proofs.lemmas.Result.{err_from_is_err_and}
use Rattle.market_words.specs.declared.words.Form.TheVariants.{Demand}
use Rattle.market_words.specs.Inputs.{names_in}
use Rattle.market_words.specs.Kinds.{Prices}
use Rattle.published_parts.specs.Markets.{market_of}
use Rattle.session_hall.specs.Streams.{command_lists}
use Rattle.utility_language.specs.Commands.{IsCommandOf}
use Rattle.market_host.specs.Sessions.{AreItemsOf}
use Rattle.market_host.specs.Taking.{unread}
use Rattle.market_host.proofs.Cursor.{none_read_yet, with_sessions}
use Rattle.market_host.proofs.DemandFacts.{demand_done, demand_read, prices_length}
use Rattle.market_host.proofs.Taking.{memory_stops}
use Rattle.market_host.proofs.demand.demand.Goals as goal

pub market-requires : goal.market-requires
market-requires g c = rw c.of-inputs.ensures (omega (arith, c.requires.named.1.front_long))

pub prices-requires : goal.prices-requires
prices-requires g c = rw (c.in_ok-market.ensures.moved, c.of-inputs.ensures) (omega (arith, c.requires.named.1.front_long))

pub rest-requires-clause-front : goal.rest-requires-clause-front
rest-requires-clause-front g c =
    rw (c.in_ok-prices.ensures.moved, c.in_ok-market.ensures.moved, c.of-inputs.ensures) (omega (arith, c.requires.named.1.front_long))

pub rest-requires-clause-some : goal.rest-requires-clause-some
rest-requires-clause-some g c = rw (c.in_ok-prices.ensures.moved, c.in_ok-market.ensures.moved, c.of-inputs.ensures) (c.requires.named.1.some tt)

pub returns-in_err-market : goal.returns-in_err-market
returns-in_err-market g c =
    let p = err_from_is_err_and c.from_residual.result c.from_residual.ensures.1 in
    let begun = none_read_yet g.H.Shelf (Demand c.args.workers) c.requires.named.0 c.args.call c.args.shelf.now c.requires.named.1 in
    rw (p.1, p.2) ((rw c.of-inputs.ensures at c.in_err-market.ensures.taken) (Demand c.args.workers) _ c.args.shelf.now (Prices ∷ [], refl) begun)

pub returns-in_err-prices : goal.returns-in_err-prices
returns-in_err-prices g c =
    let p = err_from_is_err_and c.from_residual-in_err-prices.result c.from_residual-in_err-prices.ensures.1 in
    let begun = none_read_yet g.H.Shelf (Demand c.args.workers) c.requires.named.0 c.args.call c.args.shelf.now c.requires.named.1 in
    let market = (rw c.of-inputs.ensures at c.in_ok-market.ensures.taken) (Demand c.args.workers) _ c.args.shelf.now (Prices ∷ [], refl) begun in
    rw (p.1, p.2) (c.in_err-prices.ensures.taken (Demand c.args.workers) _ (market.0 ∷ market.1 ∷ market.2 ∷ []) c.args.shelf.now refl (omega arith) market.4.catalog_says market.3)

pub returns-in_err-streams : goal.returns-in_err-streams
returns-in_err-streams g c =
    let p = err_from_is_err_and c.from_residual-in_err-streams.result c.from_residual-in_err-streams.ensures.1 in
    let begun = none_read_yet g.H.Shelf (Demand c.args.workers) c.requires.named.0 c.args.call c.args.shelf.now c.requires.named.1 in
    let market = (rw c.of-inputs.ensures at c.in_ok-market.ensures.taken) (Demand c.args.workers) _ c.args.shelf.now (Prices ∷ [], refl) begun in
    let prices = c.in_ok-prices.ensures.taken (Demand c.args.workers) _ (market.0 ∷ market.1 ∷ market.2 ∷ []) c.args.shelf.now refl (omega arith) market.4.catalog_says market.3 in
    rw (p.1, p.2) (c.in_err-streams.ensures (Demand c.args.workers) _ (market.0 ∷ market.1 ∷ market.2 ∷ prices.0 ∷ []) c.args.shelf.now refl prices.1)

pub text_of-requires-clause-prices : goal.text_of-requires-clause-prices
text_of-requires-clause-prices g c κs within =
    let begun = none_read_yet g.H.Shelf (Demand c.args.workers) c.requires.named.0 c.args.call c.args.shelf.now c.requires.named.1 in
    let market = (rw c.of-inputs.ensures at c.in_ok-market.ensures.taken) (Demand c.args.workers) _ c.args.shelf.now (Prices ∷ [], refl) begun in
    let prices = c.in_ok-prices.ensures.taken (Demand c.args.workers) _ (market.0 ∷ market.1 ∷ market.2 ∷ []) c.args.shelf.now refl (omega arith) market.4.catalog_says market.3 in
    rw c.deref.ensures.value (prices_length c.in_ok-market.market.catalog.sections prices.0 c.in_ok-prices.prices.items prices.2)

pub returns-in_err-text : goal.returns-in_err-text
returns-in_err-text g c =
    let p = err_from_is_err_and c.from_residual-in_err-text.result c.from_residual-in_err-text.ensures.1 in
    let all =
    demand_read g.H.Shelf c.args.workers (names_in c.args.call) c.args.shelf.now c.market.new.shelf c.prices.new.shelf c.rest.new.shelf
    (unread c.args.call) c.market.new.self c.prices.new.self c.in_ok-market.market c.in_ok-prices.prices c.in_ok-streams.streams
    (λ sessions streams. AreItemsOf IsCommandOf sessions streams.lists.items)
    (none_read_yet g.H.Shelf (Demand c.args.workers) c.requires.named.0 c.args.call c.args.shelf.now c.requires.named.1)
    (rw c.of-inputs.ensures at c.in_ok-market.ensures.taken) c.in_ok-prices.ensures.taken c.in_ok-streams.ensures in
    rw (p.1, p.2) (memory_stops g.H.Shelf (Demand c.args.workers) (names_in c.args.call) (all.0 ∷ all.1 ∷ all.2 ∷ all.3 ∷ all.4) c.args.shelf.now
    c.rest.new.shelf all.5)

pub returns : goal.returns
returns g c =
    let all =
    demand_read g.H.Shelf c.args.workers (names_in c.args.call) c.args.shelf.now c.market.new.shelf c.prices.new.shelf c.rest.new.shelf
    (unread c.args.call) c.market.new.self c.prices.new.self c.in_ok-market.market c.in_ok-prices.prices c.in_ok-streams.streams
    (λ sessions streams. AreItemsOf IsCommandOf sessions streams.lists.items)
    (none_read_yet g.H.Shelf (Demand c.args.workers) c.requires.named.0 c.args.call c.args.shelf.now c.requires.named.1)
    (rw c.of-inputs.ensures at c.in_ok-market.ensures.taken) c.in_ok-prices.ensures.taken c.in_ok-streams.ensures in
    let said = c.in_ok-market.market in
    let market = market_of said.catalog said.roll said.settings in
    let streams = command_lists c.in_ok-streams.streams.lists.items in (
      all.0 ∷ all.1 ∷ all.2 ∷ all.3 ∷ all.4,
      all.5,
      demand_done c.args.workers market streams all.3 c.in_ok-prices.prices.items c.in_ok-text.text.items all.7
          (rw c.deref.ensures.value at c.in_ok-text.ensures) all.0 all.1 all.2 all.4 (with_sessions all.0 all.1 all.2 all.4 market streams all.6 all.8),
    )

pub invariant_of-workers : goal.invariant_of-workers
invariant_of-workers g c = record { within = c.requires.named.1.has.6 }
