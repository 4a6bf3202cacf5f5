use Rattle.made_run.proofs.MadeOnce.{summary_is_priced_law}
use Rattle.made_run.proofs.laws.summary_is_priced.Goals as goal

pub returns : goal.returns
returns c = summary_is_priced_law c.orders_close_alike.ensures c.published_is_priced.ensures
