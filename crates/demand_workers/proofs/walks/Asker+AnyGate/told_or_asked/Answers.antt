use Rattle.std.proofs.Common.{rules}
use Rattle.demand_workers.proofs.Allowing.{spent_one}
use Rattle.demand_workers.proofs.walks.Asker+AnyGate.told_or_asked.Goals as goal

pub returns-in_err-bundle-clause-inquiries : goal.returns-in_err-bundle-clause-inquiries
returns-in_err-bundle-clause-inquiries g c = spent_one _ _ _ (search rules) c.asked_alone.ensures.inquiries

pub returns-clause-inquiries : goal.returns-clause-inquiries
returns-clause-inquiries g c = spent_one _ _ _ (search rules) c.in_ok-bundle.ensures.inquiries
