use Rattle.utility_language.proofs.Spellings.{one_command_a_line_law}
use Rattle.utility_language.proofs.laws.one_command_a_line.Goals as goal

pub returns : goal.returns
returns c = one_command_a_line_law
