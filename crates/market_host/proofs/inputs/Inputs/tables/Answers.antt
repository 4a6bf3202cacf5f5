use Rattle.std.proofs.Common.{[], ◌∷◌, arith}
use Rattle.std.proofs.lemmas.Result.{err_from_is_err_and}
use Rattle.market_words.specs.Kinds.{Catalog, Roll}
use Rattle.market_host.proofs.Cursor.{front_long, kind_in}
use Rattle.market_host.proofs.inputs.Inputs.tables.Goals as goal

pub returns-in_err-catalog-clause-taken : goal.returns-in_err-catalog-clause-taken
returns-in_err-catalog-clause-taken g c =
    let p = err_from_is_err_and c.from_residual.result c.from_residual.ensures.1 in
    rw (p.1, p.2) (λ form names start opens has. c.in_err-catalog.ensures.taken form names [] start (kind_in form (Catalog ∷ Roll ∷ []) opens 0)
    (omega (arith, front_long form (Catalog ∷ Roll ∷ []) opens)) tt has)

pub returns-in_err-roll-clause-taken : goal.returns-in_err-roll-clause-taken
returns-in_err-roll-clause-taken g c =
    let p = err_from_is_err_and c.from_residual-in_err-roll.result c.from_residual-in_err-roll.ensures.1 in
    rw (p.1, p.2) (λ form names start opens has.
    let first =
    c.in_ok-catalog.ensures.taken form names [] start (kind_in form (Catalog ∷ Roll ∷ []) opens 0)
    (omega (arith, front_long form (Catalog ∷ Roll ∷ []) opens)) tt has in
    c.in_err-roll.ensures.taken form names (first.0 ∷ []) start (kind_in form (Catalog ∷ Roll ∷ []) opens 1)
    (omega (arith, front_long form (Catalog ∷ Roll ∷ []) opens)) tt first.1)

pub returns-clause-taken : goal.returns-clause-taken
returns-clause-taken g c = λ form names start opens has.
    let first =
    c.in_ok-catalog.ensures.taken form names [] start (kind_in form (Catalog ∷ Roll ∷ []) opens 0)
    (omega (arith, front_long form (Catalog ∷ Roll ∷ []) opens)) tt has in
    let second =
    c.in_ok-roll.ensures.taken form names (first.0 ∷ []) start (kind_in form (Catalog ∷ Roll ∷ []) opens 1)
    (omega (arith, front_long form (Catalog ∷ Roll ∷ []) opens)) tt first.1 in
    (first.0, second.0, second.1, record { catalog_says = first.2; roll_says = second.2 })
