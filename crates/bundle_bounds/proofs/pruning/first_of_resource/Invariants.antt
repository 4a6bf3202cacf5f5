use Rattle.std.proofs.Common.{take}
use Rattle.std.specs.Prelude.{IfSome}
use Rattle.bundle_bounds.specs.Bounds.{resource_bounds}
use Rattle.bundle_bounds.specs.Limits.{NoneBelow}
use Rattle.bundle_bounds.specs.Known.{IsKnown}
use Rattle.bundle_bounds.specs.Tangents.{IsTangent}
use Rattle.bundle_bounds.proofs.pruning.first_of_resource.Given as goal

-- none so far has a bound below the limit
abbrev pub invariant-loop-prospect : goal.invariant-loop-prospect
invariant-loop-prospect l = record {
  known_is : IsKnown l.base.number l.limit l.left.rest l.left.resource l.all.list.now l.known;
  last_is : IfSome l.last (IsTangent l.left.rest l.left.resource l.all.list.now);
  none_is : NoneBelow l.limit (resource_bounds l.base.number l.left.rest l.left.resource l.all.list.now (take l.prospect-index l.all.list.now));
}
