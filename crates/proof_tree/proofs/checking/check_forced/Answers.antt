use Rattle.std.proofs.Common.{◌≡◌, ◌<◌, Some, length, refl, sym, subst, ap, ◌∙◌}
use Rattle.std.proofs.lemmas.Bool.{false≢true}
use Rattle.bundle_rules.specs.Bundles.{sections_of}
use Rattle.market_units.specs.Members.{has}
use Rattle.bundle_rules.specs.Menus.{wishes_of, place_in, section_at}
use Rattle.bundle_rules.specs.Demand.{price_in}
use Rattle.bundle_rules.specs.Given.{IsBestWith}
use Rattle.bundle_rules.specs.Existence.Places.{section_at-place_in}
use Rattle.std.specs.FinSet as set
use Rattle.bundle_bounds.specs.Offers.{offer_of}
use Rattle.bundle_bounds.specs.Laws.{IsTakable}
use Rattle.bundle_bounds.proofs.ByPlace.{on_menu}
use Rattle.proof_tree.specs.Texts.{IsTreeText}
use Rattle.proof_tree.specs.Defects.{FirstFailsAt}
use Rattle.proof_tree.specs.Mismatches.{offset_in}
use Rattle.proof_tree.proofs.Complete.{trees_prove_the_best_with}
use Rattle.proof_tree.proofs.NoDefects.{no_failure_in_a_tree}
use Rattle.proof_tree.proofs.checking.check_forced.Goals as goal

pub invariant_of-claim : goal.invariant_of-claim
invariant_of-claim c =
    let takable : IsTakable (offer_of c.rows-menu.result.now c.args.prices.now c.args.budget.0 c.args.allowed.now) (sections_of c.args.champion.now) =
    subst (λ m. IsTakable (offer_of m c.args.prices.now c.args.budget.0 c.args.allowed.now) (sections_of c.args.champion.now)) (sym c.rows-menu.ensures)
    c.requires.champion in
    let offer = offer_of c.rows-menu.result.now c.args.prices.now c.args.budget.0 c.args.allowed.now in
    record {
      on_menu =
          subst (λ p. p < length c.rows-menu.result.now.places) (sym c.place-place.ensures.value)
          (on_menu offer (sections_of c.args.champion.now) takable c.args.section.0 c.requires.section);
      takable = takable;
    }

pub returns-in-Ok-clause-ok : goal.returns-in-Ok-clause-ok
returns-in-Ok-clause-ok c =
    let takable : IsTakable (offer_of c.rows-menu.result.now c.args.prices.now c.args.budget.0 c.args.allowed.now) (sections_of c.args.champion.now) =
    subst (λ m. IsTakable (offer_of m c.args.prices.now c.args.budget.0 c.args.allowed.now) (sections_of c.args.champion.now)) (sym c.rows-menu.ensures)
    c.requires.champion in
    let offer = offer_of c.rows-menu.result.now c.args.prices.now c.args.budget.0 c.args.allowed.now in
    let champion = sections_of c.args.champion.now in
    let places = c.rows-menu.result.now.places in
    let low = on_menu offer (sections_of c.args.champion.now) takable c.args.section.0 c.requires.section in
    let back : section_at c.rows-menu.result.now.places (place_in c.rows-menu.result.now.places c.args.section.0) ≡ c.args.section.0 =
    section_at-place_in c.rows-menu.result.now.places c.args.section.0 low in
    let is = subst (λ p. IsTreeText offer (Some p) champion c.args.text.now) c.place-place.ensures.value c.in-Ok.ensures.ok in
    let best =
    (trees_prove_the_best_with offer (place_in c.rows-menu.result.now.places c.args.section.0) champion c.len.ensures.menu low takable
    (ap (has champion) back ∙ c.requires.section)).0
    (is.0, is.1) in rw (← c.rows-menu.ensures) (
      (λ ok. (
        subst (λ s. IsBestWith (wishes_of c.rows-menu.result.now) (price_in c.args.prices.now) c.args.budget.0 (set.contains c.args.allowed.now) s champion) back
            best,
        is,
      )),
      (λ both. refl),
    )

pub returns-in-Err-clause-ok : goal.returns-in-Err-clause-ok
returns-in-Err-clause-ok c =
    let offer = offer_of c.rows-menu.result.now c.args.prices.now c.args.budget.0 c.args.allowed.now in
    let champion = sections_of c.args.champion.now in
    let fails =
    subst (λ p. FirstFailsAt offer (Some p) champion c.args.text.now (offset_in c.in-Err.defect)) c.place-place.ensures.value c.in-Err.ensures.fails in rw (← c.rows-menu.ensures) (
      (λ ok. absurd (false≢true ok)),
      (λ both. absurd
          (no_failure_in_a_tree offer (Some (place_in c.rows-menu.result.now.places c.args.section.0)) champion c.args.text.now (offset_in c.in-Err.defect)
          c.len.ensures.menu both.1 fails)),
    )
