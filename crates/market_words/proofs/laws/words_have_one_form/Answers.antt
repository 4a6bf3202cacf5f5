use Rattle.market_words.proofs.OneForm.{one_form}
use Rattle.market_words.proofs.laws.words_have_one_form.Goals as goal

pub returns : goal.returns
returns c = one_form
