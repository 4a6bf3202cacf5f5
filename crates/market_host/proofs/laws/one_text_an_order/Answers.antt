use Rattle.market_host.proofs.OneTexts.{one_text_an_order}
use Rattle.market_host.proofs.laws.one_text_an_order.Goals as goal

pub returns : goal.returns
returns c = one_text_an_order c.one_published_text.ensures
