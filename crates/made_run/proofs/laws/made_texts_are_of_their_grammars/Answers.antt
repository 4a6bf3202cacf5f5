use Rattle.made_run.proofs.AllRead.{texts_read}
use Rattle.made_run.proofs.laws.made_texts_are_of_their_grammars.Goals as goal

pub returns : goal.returns
returns c = texts_read
