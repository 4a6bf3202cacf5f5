use Rattle.std.proofs.Common.{◌≡◌, take}
use Rattle.std.specs.List.{filter_map}
use Rattle.preference_desk.specs.Rows.{pair_entry}
use Rattle.market_menus.specs.PairPlaces.{pair_among}
use Rattle.market_menus.proofs.pairs.pairs_of.Given as goal

abbrev pub invariant-pairs : goal.invariant-pairs
invariant-pairs l = l.kept.items ≡ filter_map (λ pair. pair_among l.places.rated.now (pair_entry pair)) (take l.pair-index l.pairs)
