use Rattle.std.proofs.Common.{length, ◌<◌, ◌≤◌, ◌+◌, ◌∙◌, sym, subst, refl, rules, arith}
use Rattle.demand_api.specs.Crowds.{top}
use Rattle.demand_api.specs.Asking.{ArePricesFor}
use Rattle.demand_api.proofs.Counts.{top_some}
use Rattle.tabu_search.specs.Visits.{chosen, after_turns}
use Rattle.tabu_search.specs.Walks.{IsNext, IsSeated, IsVisit}
use Rattle.tabu_search.proofs.Courses.{drawn_are}
use Rattle.tabu_search.proofs.Walks.{drawn_is, walk_few, walk_answer, walk_moves, walk_restarts}
use Rattle.tabu_search.proofs.walking.Walk.turn.Goals as goal

pub stale_after-stale-requires : goal.stale_after-stale-requires
stale_after-stale-requires g c =
    let few = walk_few (g.D.Demands.crowd c.args.demands.now) c.args.seats.now c.args.settings.now c.args.self c.requires.walk in
    let room : c.args.self.turns + 1 < 4294967296 = search rules in
    omega (arith, few.0, room)

pub overflow_add-restart : goal.overflow_add-restart
overflow_add-restart g c =
    let few = walk_few (g.D.Demands.crowd c.args.demands.now) c.args.seats.now c.args.settings.now c.args.self c.requires.walk in
    let room : c.args.self.turns + 1 < 4294967296 = search rules in
    omega (arith, few.1, room)

pub drawn_prices-requires : goal.drawn_prices-requires
drawn_prices-requires g c =
    let some : 1 ≤ top (g.D.Demands.crowd c.args.demands.now) = top_some (g.D.Demands.crowd c.args.demands.now) in omega (arith, some, c.requires.walk.top)

pub visit_at-requires-clause-seated : goal.visit_at-requires-clause-seated
visit_at-requires-clause-seated g c κs within =
    subst (λ k. IsSeated k c.args.seats.now) (sym c.chosen.ensures.crowd) c.requires.walk.seated

pub visit_at-requires-clause-prices : goal.visit_at-requires-clause-prices
visit_at-requires-clause-prices g c κs within =
    let crowd = g.D.Demands.crowd c.args.demands.now in
    let is =
    drawn_is crowd c.args.settings.now.seed (c.args.self.restarts + 1) (length c.args.seats.now) c.args.self.top.0 c.in_ok-prices-in-None.prices.items
    c.requires.walk.seated.each c.requires.walk.top c.in_ok-prices-in-None.ensures in
    subst (λ k. ArePricesFor k c.in_ok-prices-in-None.prices.items) (sym c.chosen.ensures.crowd)
    (subst (ArePricesFor (g.D.Demands.crowd c.args.demands.now)) (sym is) (drawn_are crowd c.args.settings.now.seed (c.args.self.restarts + 1)))

pub returns-in-Some-clause-walk : goal.returns-in-Some-clause-walk
returns-in-Some-clause-walk g c =
    let crowd = g.D.Demands.crowd c.args.demands.now in
    let next =
    subst
    (IsNext (g.D.Demands.crowd c.args.demands.now) c.args.seats.now
    (chosen (g.D.Demands.crowd c.args.demands.now) c.args.seats.now c.args.settings.now
    (after_turns (g.D.Demands.crowd c.args.demands.now) c.args.seats.now c.args.settings.now c.args.self.turns)))
    c.in-Some.is c.in_ok-visit.ensures.next in
    walk_answer crowd c.args.seats.now c.args.settings.now c.args.self c.in-Some.visit c.stale_after-stale.result c.args.self.restarts c.entered.result
    (λ after entered. walk_moves crowd c.args.seats.now c.args.settings.now c.args.self after c.in-Some.visit c.stale_after-stale.result c.args.self.restarts
    c.requires.walk next.1 entered next.0 c.stale_after-stale.ensures refl)
    c.entered.ensures

pub returns-in_ok-visit-in-None-clause-walk : goal.returns-in_ok-visit-in-None-clause-walk
returns-in_ok-visit-in-None-clause-walk g c =
    let crowd = g.D.Demands.crowd c.args.demands.now in
    let none =
    subst
    (IsNext (g.D.Demands.crowd c.args.demands.now) c.args.seats.now
    (chosen (g.D.Demands.crowd c.args.demands.now) c.args.seats.now c.args.settings.now
    (after_turns (g.D.Demands.crowd c.args.demands.now) c.args.seats.now c.args.settings.now c.args.self.turns)))
    c.in-None.is c.in_ok-visit.ensures.next in
    let is =
    drawn_is crowd c.args.settings.now.seed (c.args.self.restarts + 1) (length c.args.seats.now) c.args.self.top.0 c.in_ok-prices-in-None.prices.items
    c.requires.walk.seated.each c.requires.walk.top c.in_ok-prices-in-None.ensures in
    let visit = subst (λ k. IsVisit k c.args.seats.now c.in_ok-visit-in-None.visit) c.chosen.ensures.crowd c.in_ok-visit-in-None.ensures.visit in
    walk_answer crowd c.args.seats.now c.args.settings.now c.args.self c.in_ok-visit-in-None.visit 0 (c.args.self.restarts + 1) c.entered-in-None.result
    (λ after entered. walk_restarts crowd c.args.seats.now c.args.settings.now c.args.self after c.in_ok-visit-in-None.visit 0 (c.args.self.restarts + 1)
    c.requires.walk visit entered none (c.in_ok-visit-in-None.ensures.prices ∙ is) refl refl)
    c.entered-in-None.ensures
