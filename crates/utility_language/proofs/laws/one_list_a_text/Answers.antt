use Rattle.utility_language.proofs.StreamLemmas.{one_list_a_text_law}
use Rattle.utility_language.proofs.laws.one_list_a_text.Goals as goal

pub returns : goal.returns
returns c = one_list_a_text_law
