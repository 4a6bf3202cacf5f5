use Rattle.demand_api.proofs.crowd.Crowd.of.Goals as goal

pub invariant_of-result : goal.invariant_of-result
invariant_of-result c =
    let are = rw (c.deref.ensures.value, c.deref-2.ensures.value) at (c.are_parts.ensures.0 c.if-not-are_parts.false) in
    record { same = are.0; whole = are.1 }
