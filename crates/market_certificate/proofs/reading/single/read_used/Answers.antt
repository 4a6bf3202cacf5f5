use Rattle.std.proofs.lemmas.Result.{err_from_is_err_and}
use Rattle.market_units.specs.Name.{name_bytes}
use Rattle.market_certificate.specs.Due.{UsedForm, HasForm}
use Rattle.market_certificate.proofs.Steps.{defect_form}
use Rattle.market_certificate.proofs.reading.single.read_used.Goals as goal

pub returns-in_err-line-clause-defect : goal.returns-in_err-line-clause-defect
returns-in_err-line-clause-defect c =
    let p = err_from_is_err_and c.from_residual.result c.from_residual.ensures.1 in
    rw (p.1, p.2) (λ tables. c.in_err-line.ensures.missing tables (UsedForm (name_bytes c.args.name.now)))

pub returns-in-None-clause-defect : goal.returns-in-None-clause-defect
returns-in-None-clause-defect c =
    λ tables. defect_form (HasForm tables (UsedForm (name_bytes c.args.name.now))) c.in_ok-line.line.now c.args.lines.number c.args.lines.rest.now
    c.in_ok-line.left.number c.in_ok-line.left.rest.now c.out_of_form.result c.out_of_form.ensures c.in_ok-line.ensures.takes
    c.in_ok-line.ensures.whole (c.in-None.ensures.none tables)
