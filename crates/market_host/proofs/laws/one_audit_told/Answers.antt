use Rattle.market_host.proofs.OneTexts.{one_audit_told}
use Rattle.market_host.proofs.laws.one_audit_told.Goals as goal

pub returns : goal.returns
returns c = one_audit_told
