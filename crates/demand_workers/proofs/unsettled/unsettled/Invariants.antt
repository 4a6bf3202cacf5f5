use Rattle.std.proofs.Common.{◌≤◌, ◌*◌, length}
use Rattle.demand_workers.specs.Rounds.{prices_of}
use Rattle.demand_workers.specs.Surveys.{IsSurvey}
use Rattle.demand_workers.specs.Views.{crowd_of}
use Rattle.demand_workers.proofs.unsettled.unsettled.Given as goal

-- the versions so far are surveyed, with at most one inquiry for each of them and each student
abbrev pub invariant-versions : goal.invariant-versions
invariant-versions g l = record {
  survey : IsSurvey (crowd_of l.remembered) l.remembered.bundles.items (prices_of l.versions) l.version l.inquiries.items;
  few : length l.inquiries.items ≤ l.version * length l.remembered.bundles.items;
}
