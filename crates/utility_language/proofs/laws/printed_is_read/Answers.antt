use Rattle.utility_language.proofs.Printed.{printed_is_read_law}
use Rattle.utility_language.proofs.laws.printed_is_read.Goals as goal

pub returns : goal.returns
returns c = printed_is_read_law
