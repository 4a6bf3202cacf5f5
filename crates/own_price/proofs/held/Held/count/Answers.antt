use Rattle.std.proofs.Common.{◌<◌, length, subst, sym}
use Rattle.demand_api.proofs.Tallies.{count_few}
use Rattle.own_price.proofs.held.Held.count.Goals as goal

pub returns-clause-few : goal.returns-clause-few
returns-clause-few c =
    let low : c.args.section.0 < length c.self.inside.prices.items = subst (λ held. c.args.section.0 < length held.prices) (sym c.self.view_is) c.requires in
    rw (c.index.ensures, c.from.ensures)
    (count_few (length c.self.inside.prices.items) c.self.inside.bundles.items c.self.inside.counts.items c.args.section.0 c.index.result.now
    c.self.invariant low)
