use Rattle.made_run.proofs.Merging.{orders_close_alike_law}
use Rattle.made_run.proofs.laws.orders_close_alike.Goals as goal

pub returns : goal.returns
returns c = orders_close_alike_law
