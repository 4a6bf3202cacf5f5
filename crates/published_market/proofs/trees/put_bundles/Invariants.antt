use Rattle.std.proofs.Common.{◌≡◌, ◌+◌, length}
use Rattle.published_market.specs.Shown.{AreShown}
use Rattle.published_market.proofs.trees.put_bundles.Given as goal

abbrev pub invariant-rooms : goal.invariant-rooms
invariant-rooms g l = record {
  count : length l.all.items ≡ length l.fn.all.items + l.room-index;
  shown : AreShown (g.B.BestBundles.is_shown l.bundles) l.all.items;
}
