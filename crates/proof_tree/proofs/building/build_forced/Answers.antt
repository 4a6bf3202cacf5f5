use Rattle.std.proofs.Common.{◌≡◌, ◌<◌, Some, length, sym, subst, ap, ◌∙◌}
use Rattle.std.specs.FinSet as set
use Rattle.bundle_rules.specs.Bundles.{sections_of}
use Rattle.market_units.specs.Members.{has}
use Rattle.bundle_rules.specs.Menus.{wishes_of, place_in, section_at}
use Rattle.bundle_rules.specs.Demand.{price_in}
use Rattle.bundle_rules.specs.Given.{IsBestWith}
use Rattle.bundle_rules.specs.Existence.Places.{section_at-place_in}
use Rattle.bundle_bounds.specs.Offers.{offer_of}
use Rattle.bundle_bounds.proofs.ByPlace.{on_menu}
use Rattle.proof_tree.specs.Laws.{HasTree}
use Rattle.proof_tree.proofs.Complete.{trees_prove_the_best_with}
use Rattle.proof_tree.proofs.building.build_forced.Goals as goal

pub invariant_of-claim : goal.invariant_of-claim
invariant_of-claim c =
    let best_with : IsBestWith (wishes_of c.rows-menu.result.now) (price_in c.args.prices.now) c.args.budget.0 (set.contains c.args.allowed.now) c.args.section.0 (sections_of c.args.champion.now) =
    subst (λ m. IsBestWith (wishes_of m) (price_in c.args.prices.now) c.args.budget.0 (set.contains c.args.allowed.now) c.args.section.0 (sections_of c.args.champion.now)) (sym c.rows-menu.ensures)
    c.requires.best in
    let offer = offer_of c.rows-menu.result.now c.args.prices.now c.args.budget.0 c.args.allowed.now in
    record {
      on_menu =
          subst (λ p. p < length c.rows-menu.result.now.places) (sym c.place-place.ensures.value)
          (on_menu offer (sections_of c.args.champion.now) best_with.choice c.args.section.0 best_with.is_wanted);
      takable = best_with.choice;
    }

pub written-requires : goal.written-requires
written-requires c =
    let best_with : IsBestWith (wishes_of c.rows-menu.result.now) (price_in c.args.prices.now) c.args.budget.0 (set.contains c.args.allowed.now) c.args.section.0 (sections_of c.args.champion.now) =
    subst (λ m. IsBestWith (wishes_of m) (price_in c.args.prices.now) c.args.budget.0 (set.contains c.args.allowed.now) c.args.section.0 (sections_of c.args.champion.now)) (sym c.rows-menu.ensures)
    c.requires.best in
    let offer = offer_of c.rows-menu.result.now c.args.prices.now c.args.budget.0 c.args.allowed.now in
    let champion = sections_of c.args.champion.now in
    let low = on_menu offer (sections_of c.args.champion.now) best_with.choice c.args.section.0 best_with.is_wanted in
    let back : section_at c.rows-menu.result.now.places (place_in c.rows-menu.result.now.places c.args.section.0) ≡ c.args.section.0 =
    section_at-place_in c.rows-menu.result.now.places c.args.section.0 low in
    let best =
    subst (λ s. IsBestWith (wishes_of c.rows-menu.result.now) (price_in c.args.prices.now) c.args.budget.0 (set.contains c.args.allowed.now) s champion) (sym back)
    best_with in
    subst (λ p. HasTree offer (Some p) champion) (sym c.place-place.ensures.value)
    ((trees_prove_the_best_with offer (place_in c.rows-menu.result.now.places c.args.section.0) champion c.len.ensures.menu low best_with.choice
    (ap (has champion) back ∙ best_with.is_wanted)).1
    best)
