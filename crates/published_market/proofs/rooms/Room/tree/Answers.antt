use Rattle.published_market.proofs.Bests.{best_holds}
use Rattle.published_market.proofs.rooms.Room.tree.Goals as goal

pub build-requires-clause-best : goal.build-requires-clause-best
build-requires-clause-best c = best_holds c.args.best.now
