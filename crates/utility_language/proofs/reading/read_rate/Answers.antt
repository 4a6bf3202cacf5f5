use Rattle.utility_language.proofs.Spellings.{no_section}
use Rattle.utility_language.proofs.reading.read_rate.Goals as goal

pub returns-in_err-section-clause-none : goal.returns-in_err-section-clause-none
returns-in_err-section-clause-none c =
    rw c.from_residual-in_err-section.ensures (no_section _ _ c.in_ok-student.student c.in_ok-student.ensures.spelled c.in_err-section.ensures.none)
