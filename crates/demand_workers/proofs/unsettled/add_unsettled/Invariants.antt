use Rattle.std.proofs.Common.{[], ◌≤◌, ◌+◌, length, slice_index_or}
use Rattle.demand_workers.specs.Rounds.{prices_of}
use Rattle.demand_workers.specs.Surveys.{IsSurvey}
use Rattle.demand_workers.specs.Views.{crowd_of}
use Rattle.demand_workers.proofs.Surveying.{AreFirstKept}
use Rattle.demand_workers.proofs.unsettled.add_unsettled.Given as goal

-- who of the students so far is not asked takes what is remembered
abbrev pub invariant-students : goal.invariant-students
invariant-students l = record {
  survey : IsSurvey (crowd_of l.remembered) l.remembered.bundles.items (prices_of l._versions) l.version l.inquiries.items;
  few : length l.inquiries.items ≤ length l.fn.inquiries.items + l.place;
  kept : AreFirstKept (crowd_of l.remembered) l.remembered.bundles.items (slice_index_or (prices_of l._versions) l.version []) l.version l.place
      l.inquiries.items;
}
