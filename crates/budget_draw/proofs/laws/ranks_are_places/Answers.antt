use Rattle.budget_draw.proofs.Counts.{rank_among-lt}
use Rattle.budget_draw.proofs.laws.ranks_are_places.Goals as goal

pub returns : goal.returns
returns c = rank_among-lt
