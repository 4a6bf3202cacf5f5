use Rattle.std.proofs.Common.{◌≡◌, ◌<◌, ◌≤◌, length, ◌∙◌, sym, subst, ap, arith}
use Rattle.std.proofs.Math.ListN.{length-set}
use Rattle.market_units.specs.declared.limits.TheConstants.{MAX_PRICE}
use Rattle.bundle_rules.specs.Demand.{price_in, IsPriced}
use Rattle.bundle_rules.specs.Menus.{section_at}
use Rattle.bundle_rules.specs.Ranks.{section_of}
use Rattle.demand_oracle.proofs.Filling.{price_more, section_read}
use Rattle.demand_oracle.proofs.renaming.prices_in_order.Goals as goal

pub loop-position-preserved : goal.loop-position-preserved
loop-position-preserved c =
    let m = c.args.ranked.now.menu.now in
    let few : length m.places ≤ 60 = c.len-position-end.ensures.menu.places.few in
    let price : c.price_of_place.result ≡ price_in c.args.offer.now.prices.now (section_of m c.args.ranked.now.order.now c.loop-position.position) =
    c.price_of_place.ensures.value
    ∙ ap (λ n. price_in c.args.offer.now.prices.now (section_at n.places c.place_at-place.result)) (sym c.requires)
    ∙ ap (λ k. price_in c.args.offer.now.prices.now (section_at m.places k)) c.place_at-place.ensures.place in
    record {
      whole = length-set c.loop-position.prices c.from.result _ ∙ c.loop-position.invariant.whole;
      filled =
          price_more (λ p v. (v ≡ price_in c.args.offer.now.prices.now (section_of m c.args.ranked.now.order.now p)) × (v ≤ MAX_PRICE)) c.loop-position.prices
          c.loop-position.position c.from.result _ c.from.ensures (omega (arith, c.loop-position.invariant.whole)) c.loop-position.invariant.filled
          (price, c.price_of_place.ensures.high);
    }

pub returns-clause-prices : goal.returns-clause-prices
returns-clause-prices c k d low =
    let r = c.args.ranked.now.rows.now in
    let m = c.args.ranked.now.menu.now in
    let few : length m.places ≤ 60 = c.len-position-end.ensures.menu.places.few in
    let on : k < length m.places = subst (λ n. k < n) c.args.ranked.now.renamed.rated.count low in
    subst (IsPriced c.loop-position.prices) (sym (section_read r.places k d low ∙ c.args.ranked.now.renamed.rated.section k on))
    record {
      listed = omega (arith, c.loop-position.invariant.whole);
      high = (c.loop-position.invariant.filled k (omega arith)).1;
    }
