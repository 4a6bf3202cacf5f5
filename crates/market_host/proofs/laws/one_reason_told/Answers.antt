use Rattle.market_host.proofs.OneTexts.{one_reason_told}
use Rattle.market_host.proofs.laws.one_reason_told.Goals as goal

pub returns : goal.returns
returns c = one_reason_told
