use Rattle.utility_language.proofs.WordLemmas.{words_of_a_line_law}
use Rattle.utility_language.proofs.laws.words_of_a_line.Goals as goal

pub returns : goal.returns
returns c = words_of_a_line_law
