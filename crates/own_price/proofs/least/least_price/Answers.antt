use Rattle.std.proofs.Common.{◌≡◌, ◌<◌, ◌∷◌, [], length, subst, slice_set, rules}
use Rattle.bundle_rules.specs.Demand.{price_in}
use Rattle.demand_api.specs.Prices.{AreLeastPrices}
use Rattle.own_price.proofs.Leasts.{asked_for_one, least_found}
use Rattle.own_price.proofs.least.least_price.Goals as goal

pub returns-clause-value : goal.returns-clause-value
returns-clause-value g c =
    let low : c.args.section.0 < length c.args.prices.now = rw c.requires.prices.same c.requires.section in
    let copied : c.in_ok-from_zero.from_zero.items ≡ c.args.prices.now = search rules in
    let least =
    subst (λ ps. AreLeastPrices (g.D.Demands.crowd c.args.demands.now) (price_in ps) ((c.args.section, c.args.limit) ∷ []) c.in_ok-least.least.items)
    c.deref.ensures.value c.in_ok-least.ensures.value in
    rw c.index.ensures
    (least_found (g.D.Demands.crowd c.args.demands.now) c.args.prices.now c.args.section c.args.limit c.from.result c.in_ok-least.least.items _
    c.from.ensures low
    (subst
    (λ ps. AreLeastPrices (g.D.Demands.crowd c.args.demands.now) (price_in (slice_set ps c.from.result (record { 0 = 0 })))
    ((c.args.section, c.args.limit) ∷ []) c.in_ok-least.least.items)
    copied least))

pub returns-clause-inquiries : goal.returns-clause-inquiries
returns-clause-inquiries g c digits fits =
    asked_for_one (length (g.D.Demands.crowd c.args.demands.now).students) digits (g.D.Demands.inquiries c.args.demands.now)
    (g.D.Demands.inquiries c.least_prices.new.self) (c.least_prices.ensures.inquiries digits fits)

pub returns-in_err-least-clause-inquiries : goal.returns-in_err-least-clause-inquiries
returns-in_err-least-clause-inquiries g c digits fits =
    asked_for_one (length (g.D.Demands.crowd c.args.demands.now).students) digits (g.D.Demands.inquiries c.args.demands.now)
    (g.D.Demands.inquiries c.least_prices.new.self) (c.least_prices.ensures.inquiries digits fits)
