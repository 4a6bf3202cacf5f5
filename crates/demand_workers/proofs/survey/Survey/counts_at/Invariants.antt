use Rattle.std.proofs.Common.{◌≡◌, [], length, slice_index_or}
use Rattle.std.specs.Arc.{arc_value}
use Rattle.demand_api.specs.Counting.{IsTally}
use Rattle.demand_workers.specs.Found.{tasks_of}
use Rattle.demand_workers.specs.Rounds.{prices_of}
use Rattle.demand_workers.specs.Views.{crowd_of}
use Rattle.demand_workers.proofs.Surveying.{AreWritten}
use Rattle.demand_workers.proofs.survey.Survey.counts_at.Given as goal

-- what was found so far is exchanged, and counted
abbrev pub invariant-part : goal.invariant-part
invariant-part l = record {
  len : length l.bundles.items ≡ length (arc_value l.self.found.inquiries.remembered).bundles.items;
  written : AreWritten (crowd_of (arc_value l.self.found.inquiries.remembered))
      (slice_index_or (prices_of (arc_value l.self.found.inquiries.round).versions.items) l.version []) l.version (length l.bundles.items) l.place
      (tasks_of l.self.found.inquiries) l.bundles.items;
  tally : IsTally (crowd_of (arc_value l.self.found.inquiries.remembered)).sections l.bundles.items l.counted.items;
}
