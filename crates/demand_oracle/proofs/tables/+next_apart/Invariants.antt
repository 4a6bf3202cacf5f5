use Rattle.std.proofs.Common.{◌-◌}
use Rattle.demand_oracle.proofs.tables.+next_apart.Given as goal

abbrev pub decreases-next_apart : goal.decreases-next_apart
decreases-next_apart l = 60 - l.from
