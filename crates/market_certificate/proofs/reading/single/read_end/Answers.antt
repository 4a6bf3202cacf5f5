use Rattle.std.proofs.lemmas.Result.{err_from_is_err_and}
use Rattle.market_certificate.specs.Due.{EndForm}
use Rattle.market_certificate.proofs.reading.single.read_end.Goals as goal

pub returns-in_err-line-clause-defect : goal.returns-in_err-line-clause-defect
returns-in_err-line-clause-defect c =
    let p = err_from_is_err_and c.from_residual.result c.from_residual.ensures.1 in
    rw (p.1, p.2) (λ tables. c.in_err-line.ensures.missing tables EndForm)
