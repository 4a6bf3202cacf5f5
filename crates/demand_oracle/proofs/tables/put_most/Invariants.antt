use Rattle.std.proofs.Common.{length}
use Rattle.bundle_bounds.specs.Views.{data_of}
use Rattle.demand_oracle.specs.Reaches.{HoldsCovers, AreSmall, top_of}
use Rattle.demand_oracle.proofs.tables.put_most.Given as goal

-- the numbers from the last place down to this one are filled
abbrev pub invariant-loop-place : goal.invariant-loop-place
invariant-loop-place l = record {
  filled : HoldsCovers (data_of l.offer) l.multipliers l.unit.shift (top_of (data_of l.offer) l.unit.shift) l.most l.place;
  small : AreSmall l.offer.menu.now.courses (top_of (data_of l.offer) l.unit.shift) l.most l.place (length l.offer.menu.now.places);
}
