use Rattle.certificate_checker.proofs.Telling.{two_behind}
use Rattle.certificate_checker.proofs.words.with_defect.Goals as goal

pub returns-in-Syntax-clause-words : goal.returns-in-Syntax-clause-words
returns-in-Syntax-clause-words c = rw c.in-Syntax.is (two_behind c.args.line _ _ _ _ c.with_count.ensures.words c.with.ensures.line)

pub returns-in-NotClosed-clause-words : goal.returns-in-NotClosed-clause-words
returns-in-NotClosed-clause-words c =
    rw c.in-NotClosed.is (two_behind c.args.line _ _ _ _ c.with_count-in-NotClosed.ensures.words c.with-in-NotClosed.ensures.line)

pub returns-in-WrongBranch-clause-words : goal.returns-in-WrongBranch-clause-words
returns-in-WrongBranch-clause-words c =
    rw c.in-WrongBranch.is (two_behind c.args.line _ _ _ _ c.with_count-in-WrongBranch.ensures.words c.with-in-WrongBranch.ensures.line)

pub returns-in-Rest-clause-words : goal.returns-in-Rest-clause-words
returns-in-Rest-clause-words c = rw c.in-Rest.is (two_behind c.args.line _ _ _ _ c.with_count-in-Rest.ensures.words c.with-in-Rest.ensures.line)
