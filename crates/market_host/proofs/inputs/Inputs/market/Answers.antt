use Rattle.std.proofs.Common.{[], ◌∷◌, arith}
use Rattle.std.proofs.lemmas.Result.{err_from_is_err_and}
use Rattle.market_words.specs.Kinds.{Catalog, Roll, Settings}
use Rattle.market_host.proofs.Cursor.{front_long, kind_in}
use Rattle.market_host.proofs.inputs.Inputs.market.Goals as goal

pub returns-in_err-tables-clause-taken : goal.returns-in_err-tables-clause-taken
returns-in_err-tables-clause-taken g c =
    let p = err_from_is_err_and c.from_residual.result c.from_residual.ensures.1 in
    rw (p.1, p.2) (λ form names start opens has. c.in_err-tables.ensures.taken form names start (Settings ∷ opens.0, opens.1) has)

pub returns-in_err-settings-clause-taken : goal.returns-in_err-settings-clause-taken
returns-in_err-settings-clause-taken g c =
    let p = err_from_is_err_and c.from_residual-in_err-settings.result c.from_residual-in_err-settings.ensures.1 in
    rw (p.1, p.2) (λ form names start opens has.
    let tables = c.in_ok-tables.ensures.taken form names start (Settings ∷ opens.0, opens.1) has in
    c.in_err-settings.ensures.taken form names (tables.0 ∷ tables.1 ∷ []) start (kind_in form (Catalog ∷ Roll ∷ Settings ∷ []) opens 2)
    (omega (arith, front_long form (Catalog ∷ Roll ∷ Settings ∷ []) opens)) tt tables.2)

pub returns-clause-taken : goal.returns-clause-taken
returns-clause-taken g c = λ form names start opens has.
    let tables = c.in_ok-tables.ensures.taken form names start (Settings ∷ opens.0, opens.1) has in
    let rules =
    c.in_ok-settings.ensures.taken form names (tables.0 ∷ tables.1 ∷ []) start (kind_in form (Catalog ∷ Roll ∷ Settings ∷ []) opens 2)
    (omega (arith, front_long form (Catalog ∷ Roll ∷ Settings ∷ []) opens)) tt tables.2 in (
      tables.0,
      tables.1,
      rules.0,
      rules.1,
      record { catalog_says = tables.3.catalog_says; roll_says = tables.3.roll_says; settings_say = rules.2 },
    )

pub invariant_of-result : goal.invariant_of-result
invariant_of-result g c = record { in_range = c.in_ok-settings.ensures.sound }
