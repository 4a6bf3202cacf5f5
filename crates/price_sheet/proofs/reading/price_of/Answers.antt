use Rattle.std.proofs.Common.{rules, ◌≡◌, ◌∙◌, ap, sym, get_or}
use Rattle.market_units.specs.Name.{name_bytes}
use Rattle.price_sheet.proofs.PriceFacts.{price_in-none, price_in-place}
use Rattle.price_sheet.specs.Sheets.{Priced}
use Rattle.price_sheet.proofs.reading.price_of.Goals as goal

pub returns-in-Some-clause-price : goal.returns-in-Some-clause-price
returns-in-Some-clause-price c =
    let row : c.index.result.now ≡ get_or c.args.sheet.now.read.now.rows.items c.in-Some.place c.index.result.now = search rules in
    c.price.ensures
    ∙ ap (λ (row : Priced). row.price) row
    ∙ sym
    (price_in-place c.args.sheet.now.read.now.rows.items (name_bytes c.args.name.now) c.in-Some.place c.index.result.now
    (sym (rw c.args.sheet.now.names at c.in-Some.ensures.place)))

pub returns-in-None-clause-price : goal.returns-in-None-clause-price
returns-in-None-clause-price c =
    sym (price_in-none c.args.sheet.now.read.now.rows.items (name_bytes c.args.name.now) (sym (rw c.args.sheet.now.names at c.in-None.ensures.place)))
