use Rattle.std.proofs.Common.{refl}
use Rattle.demand_oracle.proofs.oracle.best_few.Goals as goal

pub returns : goal.returns
returns c =
    let lead = c.search.ensures.leads in
    record { some = lead.some; choices = lead.takable; in_order = lead.in_order; others = λ other may. lead.over other may refl }
