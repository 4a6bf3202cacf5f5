use Rattle.std.proofs.Common.{◌≡◌, ap, map}
use Rattle.std.specs.Prelude.{Ok}
use Rattle.std.proofs.lemmas.Result.{err_from_is_err_and}
use Rattle.market_words.specs.Kinds.{Prices, limit_of}
use Rattle.price_sheet.specs.Sheets.{prices_of}
use Rattle.market_host.specs.Refusals.{AreNoPrices}
use Rattle.market_host.proofs.Cursor.{takes_next}
use Rattle.market_host.proofs.inputs.Inputs.prices.Goals as goal

pub returns-in_err-bytes-clause-taken : goal.returns-in_err-bytes-clause-taken
returns-in_err-bytes-clause-taken g c =
    let p = err_from_is_err_and c.from_residual.result c.from_residual.ensures.1 in
    rw (p.1, p.2) (λ form names texts start of front q has. c.in_err-bytes.ensures.reads form names texts start (ap limit_of of) has)

pub returns-clause-taken : goal.returns-clause-taken
returns-clause-taken g c = λ form names texts start of front q has.
    let bytes = c.in_ok-bytes.bytes.items in
    let sections = c.args.catalog.now.sections in
    takes_next g.H.Shelf form names texts start c.bytes.new.shelf c.bytes.new.self bytes
    (c.in_ok-bytes.ensures.reads form names texts start (ap limit_of of) has) Prices
    (λ text prices. prices_of sections text ≡ Ok (map (λ price. price.0) prices.items)) (AreNoPrices sections bytes) c.prices_in.result of front
    (λ prices says. (c.args.catalog.now, map (λ price. price.0) prices.items, q, says)) (λ row cause so. (c.args.catalog.now, q, so))
    (rw c.deref.ensures.value at c.prices_in.ensures.read) (rw c.deref.ensures.value at c.prices_in.ensures.refused)
