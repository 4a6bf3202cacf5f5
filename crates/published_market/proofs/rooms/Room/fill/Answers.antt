use Rattle.published_market.proofs.Bests.{best_holds}
use Rattle.published_market.proofs.rooms.Room.fill.Goals as goal

pub build_into-self-requires-clause-best : goal.build_into-self-requires-clause-best
build_into-self-requires-clause-best c = best_holds c.args.best.now
