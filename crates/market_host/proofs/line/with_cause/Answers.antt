use Rattle.market_host.proofs.LineTexts.{text_and_number}
use Rattle.market_host.proofs.line.with_cause.Goals as goal

pub returns-in-Name-clause-words : goal.returns-in-Name-clause-words
returns-in-Name-clause-words c =
    rw c.in-Name.is (text_and_number c.args.line _ _ _ _ _ c.with_number.ensures.line c.with-in-Name.ensures.line c.from.ensures)

pub returns-in-Repeated-clause-words : goal.returns-in-Repeated-clause-words
returns-in-Repeated-clause-words c =
    rw c.in-Repeated.is
    (text_and_number c.args.line _ _ _ _ _ c.with_number-in-Repeated.ensures.line c.with-in-Repeated.ensures.line c.from-in-Repeated.ensures)

pub returns-in-Number-clause-words : goal.returns-in-Number-clause-words
returns-in-Number-clause-words c =
    rw c.in-Number.is (text_and_number c.args.line _ _ _ _ _ c.with_number-in-Number.ensures.line c.with-in-Number.ensures.line c.from-in-Number.ensures)

pub returns-in-NotObject-clause-words : goal.returns-in-NotObject-clause-words
returns-in-NotObject-clause-words c = rw c.in-NotObject.is c.with-in-NotObject.ensures.line

pub returns-in-Unknown-clause-words : goal.returns-in-Unknown-clause-words
returns-in-Unknown-clause-words c = rw c.in-Unknown.is c.with-in-Unknown.ensures.line
