use Rattle.std.proofs.Common.{rules, ℕ, ◌<◌, List, [], length, map, subst, sym}
use Rattle.std.specs.Prelude.{All, nat_lt}
use Rattle.market_units.specs.declared.units.Tokens.{Tokens}
use Rattle.market_units.specs.Name.{name_bytes}
use Rattle.bundle_rules.specs.declared.menu.Rated.{Rated}
use Rattle.bundle_rules.specs.Bundles.{sections_of}
use Rattle.bundle_rules.specs.Demand.{HasPrices, IsBest, price_in}
use Rattle.bundle_rules.specs.Menus.{wishes_of}
use Rattle.demand_api.specs.Views.{data_of}
use Rattle.demand_api.proofs.Parts.{few_sections}
use Rattle.market_certificate.specs.Views.{publication_of}
use Rattle.explain_desk.specs.Checked.{IsChecked}
use Rattle.explain_desk.specs.Explanations.{IsExplained, offer_of_all}
use Rattle.explain_desk.specs.Views.{explained_of}
use Rattle.explain_desk.proofs.Printing.{names_below, rated_told}
use Rattle.market_units.proofs.NameLists.{read_option}
use Rattle.student_roll.specs.Students.{Student}
use Rattle.explain_desk.proofs.Students.{StandsAt, bundle_best, checked_by, lows, menu_priced, menu_within, stands_at, told_there}
use Rattle.explain_desk.proofs.published.published_reason.Goals as goal
use Rattle.explain_desk.proofs.published.published_reason.Goals.{After-from-place, After-index-proved}

-- what is known of the accepted text
known : (c : After-from-place)
    → IsChecked c.args.market.now.catalog.now c.args.market.now.roll.now (publication_of c.in_ok-accepted.accepted.publication)
    (data_of c.in_ok-accepted.accepted.crowd)
known c =
    checked_by c.args.market.now (map (λ stream. stream.items) c.args.streams.now) c.args.text.items c.in_ok-accepted.accepted.publication
    c.in_ok-accepted.accepted.crowd c.in_ok-accepted.ensures.text c.in_ok-accepted.ensures.holds

known_there : (c : After-index-proved)
    → IsChecked c.args.market.now.catalog.now c.args.market.now.roll.now (publication_of c.in_ok-accepted.accepted.publication)
    (data_of c.in_ok-accepted.accepted.crowd)
known_there c =
    checked_by c.args.market.now (map (λ stream. stream.items) c.args.streams.now) c.args.text.items c.in_ok-accepted.accepted.publication
    c.in_ok-accepted.accepted.crowd c.in_ok-accepted.ensures.text c.in_ok-accepted.ensures.holds

-- what stands at the place of the student
stands : (c : After-index-proved)
    → StandsAt c.in_ok-accepted.accepted.crowd c.args.student.0 c.in_ok-accepted.accepted.publication c.index-menu.result.now c.index-budget.result.now
    c.index-proved.result.now
stands c =
    stands_at c.args.market.now.catalog.now c.args.market.now.roll.now c.in_ok-accepted.accepted.publication c.in_ok-accepted.accepted.crowd
    c.from-place.result c.args.student.0 c.index-menu.result.now c.index-budget.result.now c.index-proved.result.now (known_there c)
    c.requires.student c.from-place.ensures c.index-menu.ensures c.index-budget.ensures c.index-proved.ensures

-- the sections of its menu are in the catalogue
within : (c : After-index-proved)
    → All (λ (rated : Rated). rated.section.0 < length c.args.market.now.catalog.now.sections) c.index-menu.result.now.places
within c =
    subst (λ (n : ℕ). All (λ (rated : Rated). rated.section.0 < n) c.index-menu.result.now.places) (known_there c).sections
    (menu_within _ _ _ _ _ _ (stands c))

-- its bundle is the best
best : (c : After-index-proved)
    → IsBest (wishes_of c.index-menu.result.now) (price_in c.in_ok-accepted.accepted.publication.prices.items) c.index-budget.result.now.0
    (λ s. nat_lt s c.in_ok-accepted.accepted.crowd.sections) (sections_of c.index-proved.result.now.bundle)
best c =
    bundle_best _ _ _ _ _ _ (stands c) c.args.market.now.catalog.now c.args.market.now.roll.now (known_there c)

pub index-menu-requires : goal.index-menu-requires
index-menu-requires c =
    let low : c.from-place.result < length c.in_ok-accepted.accepted.crowd.menus.items =
    (lows c.args.market.now.catalog.now c.args.market.now.roll.now c.in_ok-accepted.accepted.publication c.in_ok-accepted.accepted.crowd
    c.from-place.result c.args.student.0 (known (goal.at.index-menu-requires c).After-from-place) c.requires.student c.from-place.ensures).0 in
    search rules

pub index-budget-requires : goal.index-budget-requires
index-budget-requires c =
    let low : c.from-place.result < length c.in_ok-accepted.accepted.crowd.budgets.items =
    (lows c.args.market.now.catalog.now c.args.market.now.roll.now c.in_ok-accepted.accepted.publication c.in_ok-accepted.accepted.crowd
    c.from-place.result c.args.student.0 (known (goal.at.index-budget-requires c).After-from-place) c.requires.student c.from-place.ensures).1 in
    search rules

pub index-proved-requires : goal.index-proved-requires
index-proved-requires c =
    let low : c.from-place.result < length c.in_ok-accepted.accepted.publication.bundles.items =
    (lows c.args.market.now.catalog.now c.args.market.now.roll.now c.in_ok-accepted.accepted.publication c.in_ok-accepted.accepted.crowd
    c.from-place.result c.args.student.0 (known (goal.at.index-proved-requires c).After-from-place) c.requires.student c.from-place.ensures).2 in
    search rules

pub explain-requires-clause-offer : goal.explain-requires-clause-offer
explain-requires-clause-offer c =
    let at = (goal.at.explain-requires-clause-offer c).After-index-proved in
    record {
      priced =
          subst (λ (prices : List Tokens). HasPrices c.index-menu.result.now prices) (sym c.as_slice-prices.ensures.value)
          (menu_priced _ _ _ _ _ _ (stands at) c.args.market.now.catalog.now c.args.market.now.roll.now (known_there at));
      few = few_sections c.in_ok-accepted.accepted.crowd;
      within = menu_within _ _ _ _ _ _ (stands at);
    }

pub explain-requires-clause-bundle : goal.explain-requires-clause-bundle
explain-requires-clause-bundle c =
    subst
    (λ (prices : List Tokens). IsBest (wishes_of c.index-menu.result.now) (price_in prices) c.index-budget.result.now.0
    (λ s. nat_lt s c.in_ok-accepted.accepted.crowd.sections) (sections_of c.index-proved.result.now.bundle))
    (sym c.as_slice-prices.ensures.value)
    (best (goal.at.explain-requires-clause-bundle c).After-index-proved)

pub put_explained-requires-clause-menu : goal.put_explained-requires-clause-menu
put_explained-requires-clause-menu c = within (goal.at.put_explained-requires-clause-menu c).After-index-proved

pub put_explained-requires-clause-bundle : goal.put_explained-requires-clause-bundle
put_explained-requires-clause-bundle c = (best (goal.at.put_explained-requires-clause-bundle c).After-index-proved).choice.feasible.rated

pub put_explained-requires-clause-reason : goal.put_explained-requires-clause-reason
put_explained-requires-clause-reason c =
    let at = (goal.at.put_explained-requires-clause-reason c).After-index-proved in
    names_below c.index-menu.result.now (price_in c.as_slice-prices.result.now) c.index-budget.result.now.0 (length c.args.market.now.catalog.now.sections)
    (sections_of c.index-proved.result.now.bundle) c.args.section.0 c.in_ok-explained.explained.reason (within at) (best at).choice.feasible.rated
    c.in_ok-explained.ensures.is_reason

pub put_explained-requires-clause-best : goal.put_explained-requires-clause-best
put_explained-requires-clause-best c =
    rated_told
    (offer_of_all c.index-menu.result.now c.as_slice-prices.result.now c.index-budget.result.now.0 c.in_ok-accepted.accepted.crowd.sections)
    c.args.section.0 c.in_ok-explained.explained.best c.in_ok-explained.ensures.is_best

pub returns-clause-told : goal.returns-clause-told
returns-clause-told c = record {
  publication = publication_of c.in_ok-accepted.accepted.publication;
  is_text = c.in_ok-accepted.ensures.text;
  crowd = data_of c.in_ok-accepted.accepted.crowd;
  holds = c.in_ok-accepted.ensures.holds;
  is_told =
      told_there _ _ _ _ _ _ (stands (goal.at.returns-clause-told c).After-index-proved) c.args.market.now.catalog.now c.args.market.now.roll.now
      c.args.section.0 (explained_of c.in_ok-explained.explained) (name_bytes c.name-name.result) c.in_ok-told.told.items
      (read_option (λ (student : Student). student.name) c.args.market.now.roll.now.students c.args.student.0 (name_bytes c.name-name.result) []
      c.name-name.ensures)
      (subst
      (λ (prices : List Tokens). IsExplained
      (offer_of_all c.index-menu.result.now prices c.index-budget.result.now.0 c.in_ok-accepted.accepted.crowd.sections)
      (sections_of c.index-proved.result.now.bundle) c.args.section.0 (explained_of c.in_ok-explained.explained))
      c.as_slice-prices.ensures.value c.in_ok-explained.ensures)
      c.in_ok-told.ensures;
}
