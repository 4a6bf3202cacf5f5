use Rattle.std.proofs.Common.{[], ◌∷◌, arith, refl}
use Rattle.std.proofs.lemmas.Result.{err_from_is_err_and}
use Rattle.market_words.specs.declared.words.Form.TheVariants.{Run}
use Rattle.published_parts.specs.Markets.{market_of}
use Rattle.session_hall.specs.Streams.{command_lists}
use Rattle.market_host.proofs.Cursor.{none_read_yet, with_sessions}
use Rattle.market_host.proofs.Taking.{memory_stops}
use Rattle.market_host.proofs.run.run.Goals as goal

pub market-requires : goal.market-requires
market-requires g c = rw c.of-inputs.ensures (omega (arith, c.requires.named.1.front_long))

pub rest-requires-clause-front : goal.rest-requires-clause-front
rest-requires-clause-front g c = rw (c.in_ok-market.ensures.moved, c.of-inputs.ensures) (omega (arith, c.requires.named.1.front_long))

pub rest-requires-clause-some : goal.rest-requires-clause-some
rest-requires-clause-some g c = rw (c.in_ok-market.ensures.moved, c.of-inputs.ensures) (c.requires.named.1.some tt)

pub returns-in_err-market : goal.returns-in_err-market
returns-in_err-market g c =
    let p = err_from_is_err_and c.from_residual.result c.from_residual.ensures.1 in
    let begun = none_read_yet g.H.Shelf (Run c.args.workers) c.requires.named.0 c.args.call c.args.shelf.now c.requires.named.1 in
    rw (p.1, p.2) ((rw c.of-inputs.ensures at c.in_err-market.ensures.taken) (Run c.args.workers) _ c.args.shelf.now ([], refl) begun)

pub returns-in_err-streams : goal.returns-in_err-streams
returns-in_err-streams g c =
    let p = err_from_is_err_and c.from_residual-in_err-streams.result c.from_residual-in_err-streams.ensures.1 in
    let begun = none_read_yet g.H.Shelf (Run c.args.workers) c.requires.named.0 c.args.call c.args.shelf.now c.requires.named.1 in
    let market = (rw c.of-inputs.ensures at c.in_ok-market.ensures.taken) (Run c.args.workers) _ c.args.shelf.now ([], refl) begun in
    rw (p.1, p.2) (c.in_err-streams.ensures (Run c.args.workers) _ (market.0 ∷ market.1 ∷ market.2 ∷ []) c.args.shelf.now refl market.3)

pub returns-in_err-ended : goal.returns-in_err-ended
returns-in_err-ended g c =
    let p = err_from_is_err_and c.from_residual-in_err-ended.result c.from_residual-in_err-ended.ensures.1 in
    let begun = none_read_yet g.H.Shelf (Run c.args.workers) c.requires.named.0 c.args.call c.args.shelf.now c.requires.named.1 in
    let market = (rw c.of-inputs.ensures at c.in_ok-market.ensures.taken) (Run c.args.workers) _ c.args.shelf.now ([], refl) begun in
    let rest = c.in_ok-streams.ensures (Run c.args.workers) _ (market.0 ∷ market.1 ∷ market.2 ∷ []) c.args.shelf.now refl market.3 in
    rw (p.1, p.2) (memory_stops g.H.Shelf (Run c.args.workers) _ _ c.args.shelf.now c.rest.new.shelf rest.1)

pub returns : goal.returns
returns g c =
    let begun = none_read_yet g.H.Shelf (Run c.args.workers) c.requires.named.0 c.args.call c.args.shelf.now c.requires.named.1 in
    let market = (rw c.of-inputs.ensures at c.in_ok-market.ensures.taken) (Run c.args.workers) _ c.args.shelf.now ([], refl) begun in
    let rest = c.in_ok-streams.ensures (Run c.args.workers) _ (market.0 ∷ market.1 ∷ market.2 ∷ []) c.args.shelf.now refl market.3 in
    let said = c.in_ok-market.market in
    let say =
    with_sessions market.0 market.1 market.2 rest.0 (market_of said.catalog said.roll said.settings) (command_lists c.in_ok-streams.streams.lists.items)
    market.4 rest.2 in
    (_, rest.1, c.in_ok-ended.ensures market.0 market.1 market.2 rest.0 say)

pub invariant_of-workers : goal.invariant_of-workers
invariant_of-workers g c = record { within = c.requires.named.1.has.5 }
