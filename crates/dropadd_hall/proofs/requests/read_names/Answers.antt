use Rattle.dropadd_hall.proofs.Requested.{no_section}
use Rattle.dropadd_hall.proofs.requests.read_names.Goals as goal

pub returns-in_err-second-clause-none : goal.returns-in_err-second-clause-none
returns-in_err-second-clause-none c =
    rw c.from_residual-in_err-second.ensures (no_section _ _ c.in_ok-first.first c.in_ok-first.ensures.spelled c.in_err-second.ensures.none)
