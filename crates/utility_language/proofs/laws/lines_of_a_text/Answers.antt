use Rattle.utility_language.proofs.LineLemmas.{lines_of_a_text_law}
use Rattle.utility_language.proofs.laws.lines_of_a_text.Goals as goal

pub returns : goal.returns
returns c = lines_of_a_text_law
