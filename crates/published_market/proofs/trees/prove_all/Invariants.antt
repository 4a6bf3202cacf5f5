use Rattle.std.proofs.Common.{◌<◌, ◌≤◌, ◌-◌, length}
use Rattle.published_market.specs.Shown.{AreShown}
use Rattle.published_market.proofs.trees.prove_all.Given as goal

abbrev pub invariant-groups : goal.invariant-groups
invariant-groups g l = record {
  within : length l.all.items ≤ l.count;
  some : 0 < length l.rooms.items;
  shown : AreShown (g.B.BestBundles.is_shown l.bundles) l.all.items;
}

abbrev pub decreases-groups : goal.decreases-groups
decreases-groups g l = l.count - length l.all.items
