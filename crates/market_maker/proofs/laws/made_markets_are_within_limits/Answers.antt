use Rattle.market_maker.proofs.Sizes.{within_limits}
use Rattle.market_maker.proofs.laws.made_markets_are_within_limits.Goals as goal

pub returns : goal.returns
returns c = within_limits
