use Rattle.market_host.proofs.Confirming.{run_confirmed}
use Rattle.market_host.proofs.laws.run_is_confirmed.Goals as goal

pub returns : goal.returns
returns c = run_confirmed
