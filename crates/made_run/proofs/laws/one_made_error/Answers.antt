use Rattle.made_run.proofs.MadeOnce.{one_made_error_law}
use Rattle.made_run.proofs.laws.one_made_error.Goals as goal

pub returns : goal.returns
returns c = one_made_error_law c.orders_close_alike.ensures c.one_least_error.ensures
