use Rattle.published_market.proofs.Sentences.{order_merges}
use Rattle.published_market.proofs.laws.order_merges_streams.Goals as goal

pub returns : goal.returns
returns c = order_merges
