use Rattle.std.proofs.Common.{refl}
use Rattle.std.proofs.lemmas.Result.{err_from_is_err_and}
use Rattle.market_words.specs.declared.words.Form.TheVariants.{Check}
use Rattle.market_host.proofs.Cursor.{none_read_yet}
use Rattle.market_host.proofs.Taking.{memory_stops}
use Rattle.market_host.proofs.check.check.Goals as goal

pub published-requires-clause-none : goal.published-requires-clause-none
published-requires-clause-none g c = rw c.of-inputs.ensures refl

pub published-requires-clause-front : goal.published-requires-clause-front
published-requires-clause-front g c = rw c.of-inputs.ensures c.requires.named.1.front_long

pub published-requires-clause-some : goal.published-requires-clause-some
published-requires-clause-some g c = rw c.of-inputs.ensures (c.requires.named.1.some tt)

pub returns-in_err-published : goal.returns-in_err-published
returns-in_err-published g c =
    let p = err_from_is_err_and c.from_residual.result c.from_residual.ensures.1 in
    let begun = none_read_yet g.H.Shelf Check c.requires.named.0 c.args.call c.args.shelf.now c.requires.named.1 in
    rw (p.1, p.2) ((rw c.of-inputs.ensures at c.in_err-published.ensures) Check _ c.args.shelf.now (refl, refl) begun)

pub returns-in_err-ended : goal.returns-in_err-ended
returns-in_err-ended g c =
    let p = err_from_is_err_and c.from_residual-in_err-ended.result c.from_residual-in_err-ended.ensures.1 in
    let begun = none_read_yet g.H.Shelf Check c.requires.named.0 c.args.call c.args.shelf.now c.requires.named.1 in
    let said = (rw c.of-inputs.ensures at c.in_ok-published.ensures) Check _ c.args.shelf.now (refl, refl) begun in
    rw (p.1, p.2) (memory_stops g.H.Shelf Check _ _ c.args.shelf.now c.published.new.shelf said.4)

pub returns : goal.returns
returns g c =
    let begun = none_read_yet g.H.Shelf Check c.requires.named.0 c.args.call c.args.shelf.now c.requires.named.1 in
    let said = (rw c.of-inputs.ensures at c.in_ok-published.ensures) Check _ c.args.shelf.now (refl, refl) begun in
    (_, said.4, c.in_ok-ended.ensures said.0 said.1 said.2 said.3 said.5)
