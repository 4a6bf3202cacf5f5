use Rattle.bundle_bounds.proofs.Prices.{price_read}
use Rattle.bundle_bounds.proofs.places.price_of_place.Goals as goal

pub bounds-prices-from : goal.bounds-prices-from
bounds-prices-from c =
    (price_read c.args.menu.now c.args.prices.now c.args.place c.from.result c.rated.result.now c.requires.prices c.requires.on_menu c.rated.ensures.value
    c.from.ensures).within

pub returns-clause-value : goal.returns-clause-value
returns-clause-value c =
    (price_read c.args.menu.now c.args.prices.now c.args.place c.from.result c.rated.result.now c.requires.prices c.requires.on_menu c.rated.ensures.value
    c.from.ensures).value

pub returns-clause-high : goal.returns-clause-high
returns-clause-high c =
    (price_read c.args.menu.now c.args.prices.now c.args.place c.from.result c.rated.result.now c.requires.prices c.requires.on_menu c.rated.ensures.value
    c.from.ensures).high
