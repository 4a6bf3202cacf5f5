use Rattle.std.proofs.Common.{length}
use Rattle.demand_oracle.proofs.names.Names.+one_leads.Given as goal

abbrev pub decreases-one_leads : goal.decreases-one_leads
decreases-one_leads l = length l.places.now
