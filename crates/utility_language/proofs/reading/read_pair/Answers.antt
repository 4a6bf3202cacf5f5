use Rattle.utility_language.proofs.Spellings.{no_first, no_second}
use Rattle.utility_language.proofs.reading.read_pair.Goals as goal

pub returns-in_err-first-clause-none : goal.returns-in_err-first-clause-none
returns-in_err-first-clause-none c =
    rw c.from_residual-in_err-first.ensures (no_first _ _ c.in_ok-student.student c.in_ok-student.ensures.spelled c.in_err-first.ensures.none)

pub returns-in_err-second-clause-none : goal.returns-in_err-second-clause-none
returns-in_err-second-clause-none c =
    rw c.from_residual-in_err-second.ensures
    (no_second _ _ _ c.in_ok-student.student c.in_ok-first.first c.in_ok-student.ensures.spelled c.in_ok-first.ensures.spelled c.in_err-second.ensures.none)
