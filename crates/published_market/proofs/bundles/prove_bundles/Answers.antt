use Rattle.std.proofs.Common.{◌≡◌, ◌∙◌, length, sym}
use Rattle.std.proofs.lemmas.List.Elements.{All-map}
use Rattle.bundle_rules.specs.Demand.{price_in}
use Rattle.demand_api.specs.Views.{data_of}
use Rattle.demand_api.proofs.Parts.{students_length}
use Rattle.aftermarket_stage.proofs.Crowding.{if_both}
use Rattle.market_certificate.specs.Publications.{Proved}
use Rattle.market_certificate.specs.Views.{proved_of}
use Rattle.published_parts.specs.Offers.{IsProvedDemand, nobody}
use Rattle.published_market.specs.Making.{HasForm}
use Rattle.published_market.proofs.Rooming.{shown_beside}
use Rattle.published_market.proofs.Showing.{taken_count}
use Rattle.published_market.proofs.bundles.prove_bundles.Goals as goal

pub returns-clause-proved : goal.returns-clause-proved
returns-clause-proved g c =
    let crowd = c.args.crowd.now in
    let students : length c.args.bundles.now ≡ length (data_of crowd).students =
    taken_count crowd c.args.prices.now c.args.bundles.now c.requires.bundles ∙ sym (students_length crowd) in
    if_both c.prove_all.result _ _ _
    (λ all count shown.
    shown_beside (IsProvedDemand crowd.sections (price_in c.args.prices.now)) proved_of (data_of crowd).students nobody all.items (count ∙ students)
    (λ k one low. (shown k one low).proved))
    c.prove_all.ensures.count c.prove_all.ensures.shown

pub returns-clause-form : goal.returns-clause-form
returns-clause-form g c =
    if_both c.prove_all.result _ _ _
    (λ all count shown. All-map (λ (proved : Proved). HasForm proved.bundle proved.tree) proved_of all.items (λ k one low. (shown k one low).form))
    c.prove_all.ensures.count c.prove_all.ensures.shown
