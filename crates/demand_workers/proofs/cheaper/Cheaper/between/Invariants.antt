use Rattle.std.proofs.Common.{ℕ, ◌<◌, ◌≤◌}
use Rattle.bundle_rules.specs.Demand.{price_in}
use Rattle.demand_workers.proofs.cheaper.Cheaper.between.Given as goal

-- of the sections so far those that became cheaper stand between
abbrev pub invariant-loop-place : goal.invariant-loop-place
invariant-loop-place l = record {
  below : (s : ℕ) → s < l.place → s < l.first → price_in l.before s ≤ price_in l.after s;
  above : (s : ℕ) → s < l.place → l.past ≤ s → price_in l.before s ≤ price_in l.after s;
}
