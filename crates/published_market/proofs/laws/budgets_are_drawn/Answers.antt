use Rattle.published_market.proofs.Sentences.{budgets_drawn}
use Rattle.published_market.proofs.laws.budgets_are_drawn.Goals as goal

pub returns : goal.returns
returns c = budgets_drawn
