use Rattle.std.proofs.Common.{◌≡◌, ◌-◌, ◌∙◌, sym, rules}
use Rattle.bundle_bounds.specs.Bounds.{over_price}
use Rattle.bundle_bounds.proofs.Adding.{over_next}
use Rattle.bundle_bounds.proofs.prospects.peak_of.Goals as goal

pub returns-clause-after : goal.returns-clause-after
returns-clause-after c =
    let here : c.saturating_sub-here.result ≡ over_price c.args.rate.resource c.args.rate.price c.args.prospect.now = search rules in
    c.saturating_sub.ensures ∙ (λ i. here i - c.takes-taken.ensures.value i)
    ∙ sym (over_next c.args.rate.resource c.args.rate.price c.args.prospect.now)
