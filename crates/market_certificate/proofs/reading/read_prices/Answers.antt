use Rattle.std.proofs.Common.{◌≤◌, ◌++◌, List, map, refl}
use Rattle.std.proofs.lemmas.Result.{err_from_is_err_and}
use Rattle.market_certificate.specs.declared.amounts.Amount.TheVariants as kinds
use Rattle.market_certificate.specs.Texts.{amount_line, error_line, most_of}
use Rattle.market_certificate.specs.Due.{AmountForm, Due, ErrorForm, each_due, prices_due}
use Rattle.market_certificate.specs.Views.{seen}
use Rattle.market_certificate.proofs.Blocks.{defect_of_names, of_names}
use Rattle.market_certificate.proofs.Parts.{error_due, passes_amounts, prices_read, start_due}
use Rattle.market_certificate.proofs.Steps.{AreRead, HasPassed, defect_passed, pass_both, passes_one, stop_passed}
use Rattle.market_certificate.proofs.reading.read_prices.Goals as goal
use Rattle.market_certificate.proofs.reading.read_prices.Goals.{In_ok-budgets, In_ok-start}

-- the budgets, and what is due behind them
budgets : (c : In_ok-budgets)
    → AreRead (amount_line kinds.Budget) (λ tokens. tokens ≤ most_of kinds.Budget) (seen c.args.tables.now).students
    (map (λ tokens. tokens.0) c.in_ok-budgets.budgets.items) c.args.lines.number c.args.lines.rest.now c.in_ok-budgets.left.number c.in_ok-budgets.left.rest.now
budgets c = of_names (amount_line kinds.Budget) _ c.deref.ensures.value c.in_ok-budgets.ensures.range c.in_ok-budgets.ensures.lines

behind_budgets : (c : In_ok-budgets) (more : List Due)
    → HasPassed (seen c.args.tables.now) (prices_due (seen c.args.tables.now) more) (start_due (seen c.args.tables.now) more) c.args.lines.number
    c.args.lines.rest.now c.in_ok-budgets.left.number c.in_ok-budgets.left.rest.now
behind_budgets c more = passes_amounts (seen c.args.tables.now) kinds.Budget (start_due (seen c.args.tables.now) more) (budgets c)

-- the first prices, and what is due behind them
start : (c : In_ok-start)
    → AreRead (amount_line kinds.Start) (λ tokens. tokens ≤ most_of kinds.Start) (seen c.args.tables.now).sections
    (map (λ tokens. tokens.0) c.in_ok-start.start.items) c.in_ok-budgets.left.number c.in_ok-budgets.left.rest.now c.in_ok-start.left.number
    c.in_ok-start.left.rest.now
start c = of_names (amount_line kinds.Start) _ c.deref-2.ensures.value c.in_ok-start.ensures.range c.in_ok-start.ensures.lines

behind_start : (c : In_ok-start) (more : List Due)
    → HasPassed (seen c.args.tables.now) (start_due (seen c.args.tables.now) more) (error_due (seen c.args.tables.now) more) c.in_ok-budgets.left.number
    c.in_ok-budgets.left.rest.now c.in_ok-start.left.number c.in_ok-start.left.rest.now
behind_start c more = passes_amounts (seen c.args.tables.now) kinds.Start (error_due (seen c.args.tables.now) more) (start c)

pub returns-in_err-budgets-clause-defect : goal.returns-in_err-budgets-clause-defect
returns-in_err-budgets-clause-defect c =
    let p = err_from_is_err_and c.from_residual.result c.from_residual.ensures.1 in
    let tables = seen c.args.tables.now in
    rw (p.1, p.2)
    (λ more. defect_of_names c.args.lines.number c.args.lines.rest.now tables (AmountForm kinds.Budget) (start_due tables more) c.in_err-budgets.field-0.0 c.deref.ensures.value
    (c.in_err-budgets.ensures.defect tables (start_due tables more)))

pub returns-in_err-start-clause-defect : goal.returns-in_err-start-clause-defect
returns-in_err-start-clause-defect c =
    let p = err_from_is_err_and c.from_residual-in_err-start.result c.from_residual-in_err-start.ensures.1 in
    let tables = seen c.args.tables.now in
    rw (p.1, p.2)
    (λ more. defect_passed c.in_err-start.field-0.0 (behind_budgets (goal.at.returns-in_err-start-clause-defect c).In_ok-budgets more)
    (defect_of_names c.in_ok-budgets.left.number c.in_ok-budgets.left.rest.now tables (AmountForm kinds.Start) (error_due tables more) c.in_err-start.field-0.0 c.deref-2.ensures.value
    (c.in_err-start.ensures.defect tables (error_due tables more))))

pub returns-in_err-error-clause-defect : goal.returns-in_err-error-clause-defect
returns-in_err-error-clause-defect c =
    let p = err_from_is_err_and c.from_residual-in_err-error.result c.from_residual-in_err-error.ensures.1 in
    let at = goal.at.returns-in_err-error-clause-defect c in
    rw (p.1, p.2)
    (λ more. stop_passed c.in_err-error.field-0.0 ErrorForm _ (pass_both (behind_budgets at.In_ok-budgets more) (behind_start at.In_ok-start more))
    (c.in_err-error.ensures.defect (seen c.args.tables.now)))

pub returns-in_err-prices-clause-defect : goal.returns-in_err-prices-clause-defect
returns-in_err-prices-clause-defect c =
    let p = err_from_is_err_and c.from_residual-in_err-prices.result c.from_residual-in_err-prices.ensures.1 in
    let tables = seen c.args.tables.now in
    let at = goal.at.returns-in_err-prices-clause-defect c in
    rw (p.1, p.2)
    (λ more. defect_passed c.in_err-prices.field-0.0
    (pass_both (pass_both (behind_budgets at.In_ok-budgets more) (behind_start at.In_ok-start more))
    (passes_one tables ErrorForm (each_due (AmountForm kinds.Price) tables.sections ++ more) (error_line c.in_ok-error.error)
    (c.in_ok-error.error, c.in_ok-error.ensures.small, refl) c.in_ok-error.ensures.line))
    (defect_of_names c.in_ok-error.left.number c.in_ok-error.left.rest.now tables (AmountForm kinds.Price) more c.in_err-prices.field-0.0 c.deref-3.ensures.value (c.in_err-prices.ensures.defect tables more)))

pub returns-clause-prices : goal.returns-clause-prices
returns-clause-prices c =
    prices_read (seen c.args.tables.now) c.in_ok-error.error (budgets (goal.at.returns-clause-prices c).In_ok-budgets)
    (start (goal.at.returns-clause-prices c).In_ok-start) c.in_ok-error.ensures.small c.in_ok-error.ensures.line
    (of_names (amount_line kinds.Price) _ c.deref-3.ensures.value c.in_ok-prices.ensures.range c.in_ok-prices.ensures.lines)
