use Rattle.std.proofs.Common.{map}
use Rattle.bundle_rules.specs.Bundles.{sections_of}
use Rattle.held_seats.proofs.Holding.{below_within}
use Rattle.held_seats.proofs.floor.Floor.open.Goals as goal

pub count_bundles-requires-clause-within : goal.count_bundles-requires-clause-within
count_bundles-requires-clause-within c = below_within _ (map sections_of c.args.bundles.now) c.requires.below
