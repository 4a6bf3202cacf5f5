use Rattle.std.proofs.Common.{◌≡◌, map, subst, sym, ◌∙◌}
use Rattle.std.proofs.lemmas.Result.{err_from_is_err_and}
use Rattle.market_certificate.specs.Tables.{Tables, tables_of}
use Rattle.market_certificate.specs.Texts.{text_of}
use Rattle.market_certificate.specs.Due.{outcome_due}
use Rattle.bundle_rules.specs.Bundles.{sections_of}
use Rattle.market_certificate.specs.Publications.{Publication}
use Rattle.market_certificate.specs.Views.{proved_of, seen, turn_of}
use Rattle.market_certificate.proofs.Wholes.{at_head, at_order, at_outcome, at_prices, refused, told, whole}
use Rattle.market_certificate.proofs.reading.read_publication.Goals as goal

pub returns-in_err-left-clause-defect : goal.returns-in_err-left-clause-defect
returns-in_err-left-clause-defect c =
    let p = err_from_is_err_and c.from_residual-in_err-left.result c.from_residual-in_err-left.ensures.1 in
    rw (p.1, p.2)
    (told (seen c.in_ok-tables.tables) (tables_of c.args.catalog.now c.args.roll.now) c.of-2.result.number c.of-2.result.rest.now c.args.text.now
    c.in_err-left.field-0.0 c.in_ok-tables.ensures c.of-2.ensures.number c.of-2.ensures.text
    (at_head (seen c.in_ok-tables.tables) c.of-2.result.number c.of-2.result.rest.now c.in_err-left.field-0.0 c.in_err-left.ensures.defect))

pub returns-in_err-left-clause-refused : goal.returns-in_err-left-clause-refused
returns-in_err-left-clause-refused c =
    let p = err_from_is_err_and c.from_residual-in_err-left.result c.from_residual-in_err-left.ensures.1 in
    rw (p.1, p.2)
    (refused (seen c.in_ok-tables.tables) (tables_of c.args.catalog.now c.args.roll.now) c.of-2.result.number c.of-2.result.rest.now c.args.text.now
    c.in_err-left.field-0.0 c.in_ok-tables.tables.are c.in_ok-tables.ensures c.of-2.ensures.number c.of-2.ensures.text
    (at_head (seen c.in_ok-tables.tables) c.of-2.result.number c.of-2.result.rest.now c.in_err-left.field-0.0 c.in_err-left.ensures.defect))

pub returns-in_err-order-clause-defect : goal.returns-in_err-order-clause-defect
returns-in_err-order-clause-defect c =
    let p = err_from_is_err_and c.from_residual-in_err-order.result c.from_residual-in_err-order.ensures.1 in
    rw (p.1, p.2)
    (told (seen c.in_ok-tables.tables) (tables_of c.args.catalog.now c.args.roll.now) c.of-2.result.number c.of-2.result.rest.now c.args.text.now
    c.in_err-order.field-0.0 c.in_ok-tables.ensures c.of-2.ensures.number c.of-2.ensures.text
    (at_order (seen c.in_ok-tables.tables) c.of-2.result.number c.in_ok-left.left.number c.of-2.result.rest.now c.in_ok-left.left.rest.now
    c.in_err-order.field-0.0 c.in_ok-left.ensures.line (c.in_err-order.ensures.defect (seen c.in_ok-tables.tables))))

pub returns-in_err-order-clause-refused : goal.returns-in_err-order-clause-refused
returns-in_err-order-clause-refused c =
    let p = err_from_is_err_and c.from_residual-in_err-order.result c.from_residual-in_err-order.ensures.1 in
    rw (p.1, p.2)
    (refused (seen c.in_ok-tables.tables) (tables_of c.args.catalog.now c.args.roll.now) c.of-2.result.number c.of-2.result.rest.now c.args.text.now
    c.in_err-order.field-0.0 c.in_ok-tables.tables.are c.in_ok-tables.ensures c.of-2.ensures.number c.of-2.ensures.text
    (at_order (seen c.in_ok-tables.tables) c.of-2.result.number c.in_ok-left.left.number c.of-2.result.rest.now c.in_ok-left.left.rest.now
    c.in_err-order.field-0.0 c.in_ok-left.ensures.line (c.in_err-order.ensures.defect (seen c.in_ok-tables.tables))))

pub returns-in_err-prices-clause-defect : goal.returns-in_err-prices-clause-defect
returns-in_err-prices-clause-defect c =
    let p = err_from_is_err_and c.from_residual-in_err-prices.result c.from_residual-in_err-prices.ensures.1 in
    rw (p.1, p.2)
    (told (seen c.in_ok-tables.tables) (tables_of c.args.catalog.now c.args.roll.now) c.of-2.result.number c.of-2.result.rest.now c.args.text.now
    c.in_err-prices.field-0.0 c.in_ok-tables.ensures c.of-2.ensures.number c.of-2.ensures.text
    (at_prices (seen c.in_ok-tables.tables) c.in_ok-order.order.items c.of-2.result.number c.in_ok-left.left.number c.in_ok-order.left.number
    c.of-2.result.rest.now c.in_ok-left.left.rest.now c.in_ok-order.left.rest.now c.in_err-prices.field-0.0 c.in_ok-left.ensures.line
    c.in_ok-order.ensures.range c.in_ok-order.ensures.line (c.in_err-prices.ensures.defect (outcome_due (seen c.in_ok-tables.tables)))))

pub returns-in_err-prices-clause-refused : goal.returns-in_err-prices-clause-refused
returns-in_err-prices-clause-refused c =
    let p = err_from_is_err_and c.from_residual-in_err-prices.result c.from_residual-in_err-prices.ensures.1 in
    rw (p.1, p.2)
    (refused (seen c.in_ok-tables.tables) (tables_of c.args.catalog.now c.args.roll.now) c.of-2.result.number c.of-2.result.rest.now c.args.text.now
    c.in_err-prices.field-0.0 c.in_ok-tables.tables.are c.in_ok-tables.ensures c.of-2.ensures.number c.of-2.ensures.text
    (at_prices (seen c.in_ok-tables.tables) c.in_ok-order.order.items c.of-2.result.number c.in_ok-left.left.number c.in_ok-order.left.number
    c.of-2.result.rest.now c.in_ok-left.left.rest.now c.in_ok-order.left.rest.now c.in_err-prices.field-0.0 c.in_ok-left.ensures.line
    c.in_ok-order.ensures.range c.in_ok-order.ensures.line (c.in_err-prices.ensures.defect (outcome_due (seen c.in_ok-tables.tables)))))

pub returns-in_err-outcome-clause-defect : goal.returns-in_err-outcome-clause-defect
returns-in_err-outcome-clause-defect c =
    let p = err_from_is_err_and c.from_residual-in_err-outcome.result c.from_residual-in_err-outcome.ensures.1 in
    rw (p.1, p.2)
    (told (seen c.in_ok-tables.tables) (tables_of c.args.catalog.now c.args.roll.now) c.of-2.result.number c.of-2.result.rest.now c.args.text.now
    c.in_err-outcome.field-0.0 c.in_ok-tables.ensures c.of-2.ensures.number c.of-2.ensures.text
    (at_outcome (seen c.in_ok-tables.tables) c.in_ok-order.order.items (map (λ tokens. tokens.0) c.in_ok-prices.prices.budgets.items)
    (map (λ tokens. tokens.0) c.in_ok-prices.prices.start.items) c.in_ok-prices.prices.error
    (map (λ tokens. tokens.0) c.in_ok-prices.prices.prices.items) c.of-2.result.number c.in_ok-left.left.number c.in_ok-order.left.number
    c.in_ok-prices.left.number c.of-2.result.rest.now c.in_ok-left.left.rest.now c.in_ok-order.left.rest.now c.in_ok-prices.left.rest.now
    c.in_err-outcome.field-0.0 c.in_ok-left.ensures.line c.in_ok-order.ensures.range c.in_ok-order.ensures.line c.in_ok-prices.ensures.prices
    c.in_err-outcome.ensures.defect))

pub returns-in_err-outcome-clause-refused : goal.returns-in_err-outcome-clause-refused
returns-in_err-outcome-clause-refused c =
    let p = err_from_is_err_and c.from_residual-in_err-outcome.result c.from_residual-in_err-outcome.ensures.1 in
    rw (p.1, p.2)
    (refused (seen c.in_ok-tables.tables) (tables_of c.args.catalog.now c.args.roll.now) c.of-2.result.number c.of-2.result.rest.now c.args.text.now
    c.in_err-outcome.field-0.0 c.in_ok-tables.tables.are c.in_ok-tables.ensures c.of-2.ensures.number c.of-2.ensures.text
    (at_outcome (seen c.in_ok-tables.tables) c.in_ok-order.order.items (map (λ tokens. tokens.0) c.in_ok-prices.prices.budgets.items)
    (map (λ tokens. tokens.0) c.in_ok-prices.prices.start.items) c.in_ok-prices.prices.error
    (map (λ tokens. tokens.0) c.in_ok-prices.prices.prices.items) c.of-2.result.number c.in_ok-left.left.number c.in_ok-order.left.number
    c.in_ok-prices.left.number c.of-2.result.rest.now c.in_ok-left.left.rest.now c.in_ok-order.left.rest.now c.in_ok-prices.left.rest.now
    c.in_err-outcome.field-0.0 c.in_ok-left.ensures.line c.in_ok-order.ensures.range c.in_ok-order.ensures.line c.in_ok-prices.ensures.prices
    c.in_err-outcome.ensures.defect))

pub returns-clause-text : goal.returns-clause-text
returns-clause-text c =
    let p : Publication = record {
      order = c.in_ok-order.order.items;
      budgets = (map (λ tokens. tokens.0) c.in_ok-prices.prices.budgets.items);
      start = (map (λ tokens. tokens.0) c.in_ok-prices.prices.start.items);
      error = c.in_ok-prices.prices.error;
      prices = (map (λ tokens. tokens.0) c.in_ok-prices.prices.prices.items);
      bundles = map proved_of c.in_ok-outcome.outcome.bundles.items;
      turns = map turn_of c.in_ok-outcome.outcome.turns.items;
      allocation = map sections_of c.in_ok-outcome.outcome.allocation.items;
      used = c.in_ok-outcome.outcome.used.items;
    } in
    subst (λ (tables : Tables). c.args.text.now ≡ text_of tables p) c.in_ok-tables.ensures (
    sym c.of-2.ensures.text
    ∙ whole (seen c.in_ok-tables.tables) p c.of-2.result.number c.in_ok-left.left.number c.in_ok-order.left.number c.in_ok-prices.left.number
    c.of-2.result.rest.now c.in_ok-left.left.rest.now c.in_ok-order.left.rest.now c.in_ok-prices.left.rest.now c.in_ok-left.ensures.line
    c.in_ok-order.ensures.line c.in_ok-prices.ensures.prices c.in_ok-outcome.ensures.outcome
    )
