use Rattle.made_run.proofs.MadeOnce.{one_made_summary_law}
use Rattle.made_run.proofs.laws.one_made_summary.Goals as goal

pub returns : goal.returns
returns c = one_made_summary_law c.orders_close_alike.ensures c.one_is_found.ensures c.one_aftermarket.ensures c.one_publication.ensures
