use Rattle.published_market.proofs.Sentences.{best_within_budget}
use Rattle.published_market.proofs.laws.best_within_budget.Goals as goal

pub returns : goal.returns
returns c = best_within_budget
