use Rattle.clearing_error.proofs.Sections.{error_by_top}
use Rattle.clearing_error.proofs.laws.error_by_top.Goals as goal

pub returns : goal.returns
returns c = error_by_top
