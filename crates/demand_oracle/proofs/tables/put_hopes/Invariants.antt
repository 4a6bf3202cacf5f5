use Rattle.std.proofs.Common.{◌≡◌, length}
use Rattle.bundle_bounds.specs.Views.{data_of}
use Rattle.demand_oracle.specs.Reaches.{HoldsHopes}
use Rattle.demand_oracle.proofs.tables.put_hopes.Given as goal

-- the rows from the last one down to this one are filled
abbrev pub invariant-loop-place : goal.invariant-loop-place
invariant-loop-place l = record {
  whole : length l.hopes ≡ 61;
  filled : HoldsHopes (data_of l.offer) l.hopes l.place;
}
