use Rattle.std.proofs.Common.{sym, ◌∙◌, arith}
use Rattle.std.proofs.lemmas.Fmt.{decimal_injective}
use Rattle.market_certificate.proofs.reading.values.session_of.Goals as goal

pub returns-then-session-eq0-clause-none : goal.returns-then-session-eq0-clause-none
returns-then-session-eq0-clause-none c = λ session is e.
    let same =
    decimal_injective c.in_ok-session.session session (omega (arith, c.in_ok-session.ensures.within)) (omega (arith, is.most))
    (sym c.in_ok-session.ensures.spelled ∙ e) in
    omega (arith, is.least, same, c.if-session-eq0.true)
