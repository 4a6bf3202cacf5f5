use Rattle.std.proofs.Common.{sym, ◌∙◌, arith}
use Rattle.std.specs.Prelude.{codes}
use Rattle.std.specs.Fmt.{decimal}
use Rattle.std.proofs.lemmas.Bool.Decides.{nat_tests}
use Rattle.std.proofs.lemmas.Fmt.{decimal_injective}
use Rattle.market_certificate.proofs.Unformed.{behind_same}
use Rattle.market_certificate.proofs.reading.forms.is_head.Goals as goal

pub returns-in-Some-read_number-clause-no : goal.returns-in-Some-read_number-clause-no
returns-in-Some-read_number-clause-no c = λ e.
    let digits = behind_same (codes "course-match") c.args.line.now c.in-Some.digits.now (decimal c.args.version) c.in-Some.ensures.some e in
    let same =
    decimal_injective c.in-Some-read_number.found c.args.version (omega (arith, c.in-Some-read_number.ensures.within)) (omega arith)
    (sym c.in-Some-read_number.ensures.spelled ∙ digits) in
    grind (arith, nat_tests, same)

pub returns-in-None-clause-no : goal.returns-in-None-clause-no
returns-in-None-clause-no c = λ e. absurd (c.in-None.ensures.none _ e)
