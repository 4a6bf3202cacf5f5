use Rattle.published_market.proofs.Sentences.{best_at_its_turn}
use Rattle.published_market.proofs.laws.best_at_its_turn.Goals as goal

pub returns : goal.returns
returns c = best_at_its_turn
