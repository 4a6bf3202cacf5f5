use Rattle.std.proofs.Common.{◌≡◌, ◌≤◌, ◌++◌, drop, length, option_map}
use Rattle.std.specs.Prelude.{All}
use Rattle.serde_json.specs.View.{items_view}
use Rattle.market_settings.specs.Values.{numbers_within}
use Rattle.market_settings.proofs.values.sizes_within.Given as goal

abbrev pub invariant-loop-item : goal.invariant-loop-item
invariant-loop-item l = record {
  left : numbers_within 1 100000 (items_view l.items)
      ≡ option_map (λ ns. l.sizes.items ++ ns) (numbers_within 1 100000 (items_view (drop l.item-index l.items)));
  count : length l.sizes.items ≡ l.item-index;
  within : All (λ size. (1 ≤ size) × (size ≤ 100000)) l.sizes.items;
}
