use Rattle.std.proofs.Common.{rules, ℕ, ◌≡◌, ◌≤◌, ◌<◌, ◌∙◌, List, ap, sym, subst}
use Rattle.std.specs.Arc.{arc_value}
use Rattle.std.specs.Prelude.{IsTrue}
use Rattle.bundle_rules.specs.declared.bundle.Bundle.{Bundle}
use Rattle.bundle_rules.specs.declared.menu.Rated.{Rated}
use Rattle.bundle_rules.specs.Bundles.{sections_of}
use Rattle.bundle_rules.specs.Demand.{price_in}
use Rattle.bundle_rules.specs.Menus.{place_in, rating_at, wishes_of}
use Rattle.demand_api.specs.Crowds.{demand_of}
use Rattle.demand_api.proofs.Takers.{priced_at}
use Rattle.demand_oracle.specs.Bests.{IsFirstWithin}
use Rattle.demand_oracle.specs.BestViews.{bundles_of}
use Rattle.demand_workers.specs.Notes.{budget_of, places_of, price_among, price_noted}
use Rattle.demand_workers.specs.Views.{crowd_of}
use Rattle.demand_workers.proofs.Noting.{if_some}
use Rattle.demand_workers.proofs.Recalling.{budget_is, on_menu, places_are}
use Rattle.demand_workers.proofs.notes.served.Goals as goal

pub cost_enough-requires : goal.cost_enough-requires
cost_enough-requires c =
    let question = c.args.question.now in
    on_menu (arc_value question.remembered.now.crowd) question.student.0 _ c.menu-menu.result.now c.places.result.now question.listed
    (c.menu-menu.ensures c.menu-menu.result.now) c.places.ensures.value question.priced.same

pub first_within-requires-clause-prices : goal.first_within-requires-clause-prices
first_within-requires-clause-prices c =
    let question = c.args.question.now in
    priced_at (arc_value question.remembered.now.crowd) question.prices.now question.student.0 c.menu-menu.result.now question.priced question.listed
    (c.menu-menu.ensures c.menu-menu.result.now)

pub first_within-requires-clause-rated : goal.first_within-requires-clause-rated
unfolding wishes_of
first_within-requires-clause-rated c bundle among s is =
    let question = c.args.question.now in
    let same : c.args.note.now.student.0 ≡ c.args.question.now.student.0 = search rules in
    let places =
    ap (places_of (crowd_of question.remembered.now)) same
    ∙ places_are (arc_value question.remembered.now.crowd) question.student.0 c.menu-menu.result.now question.listed (c.menu-menu.ensures c.menu-menu.result.now) in
    subst (λ (ps : List Rated). 0 < rating_at ps (place_in ps s)) places (c.requires.rated bundle among s is)

pub returns : goal.returns
returns c =
    let question = c.args.question.now in
    let crowd = arc_value question.remembered.now.crowd in
    let note = c.args.note.now in
    let price = price_in question.prices.now in
    let same : c.args.note.now.student.0 ≡ c.args.question.now.student.0 = search rules in
    let enough : IsTrue c.cost_enough.result = search rules in
    let none : (s : ℕ) → price_noted (crowd_of question.remembered.now) note s ≤ price s =
    λ s. subst (λ (places : List Rated). price_among places note.prices s ≤ price s)
    (c.places.ensures.value ∙ sym (places_are crowd question.student.0 c.menu-menu.result.now question.listed (c.menu-menu.ensures c.menu-menu.result.now))
    ∙ ap (places_of (crowd_of question.remembered.now)) (sym same))
    (c.cost_enough.ensures enough s) in
    let has_it =
    ap (budget_of (crowd_of question.remembered.now)) same
    ∙ budget_is crowd question.student.0 c.budget.result question.listed (c.budget.ensures c.budget.result) in
    if_some (λ (b : Bundle). IsFirstWithin price c.budget.result.0 (bundles_of note.best) (sections_of b))
    (λ (b : Bundle). sections_of b ≡ demand_of (crowd_of question.remembered.now) price question.student.0) c.first_within.result
    (λ b first.
    c.requires.taken price none (sections_of b)
    (subst (λ (n : ℕ). IsFirstWithin price n (bundles_of note.best) (sections_of b)) (sym has_it) first)
    ∙ ap (demand_of (crowd_of question.remembered.now) price) same)
    c.first_within.ensures.first
