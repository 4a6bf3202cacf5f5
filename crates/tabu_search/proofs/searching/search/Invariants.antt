use Rattle.std.proofs.Common.{ℕ, ◌≡◌, ◌≤◌, ◌<◌, ◌-◌}
use Rattle.tabu_search.specs.Visits.{error_at, after_turns}
use Rattle.tabu_search.specs.Walks.{IsWalk}
use Rattle.tabu_search.proofs.searching.search.Given as goal

abbrev pub invariant-turns : goal.invariant-turns
invariant-turns g l = record {
  same : g.D.Demands.crowd l.demands ≡ g.D.Demands.crowd l.fn.demands;
  walk : IsWalk (g.D.Demands.crowd l.fn.demands) l.seats l.settings l.walk;
  few : l.walk.turns ≤ l.settings.turns;
  before : (n : ℕ) → n < l.walk.turns
      → l.settings.accept < error_at (g.D.Demands.crowd l.fn.demands) l.seats (after_turns (g.D.Demands.crowd l.fn.demands) l.seats l.settings n).current;
}

abbrev pub decreases-turns : goal.decreases-turns
decreases-turns g l = l.settings.turns - l.walk.turns
