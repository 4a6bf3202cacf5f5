use Rattle.std.proofs.Common.{◌≡◌, length}
use Rattle.demand_workers.specs.Surveyed.{AreParts}
use Rattle.demand_workers.proofs.survey.parts_of.Given as goal

-- the parts of the inquiries so far
abbrev pub invariant-loop-place : goal.invariant-loop-place
invariant-loop-place l = record {
  each : length l.parts.items ≡ l.versions;
  parts : AreParts l.inquiries l.place l.parts.items;
}
