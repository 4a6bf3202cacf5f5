use Rattle.std.proofs.Common.{refl}
use Rattle.market_host.proofs.ZeroPrices.{best_of_all, has_prices}
use Rattle.market_host.proofs.quote.best_of.Goals as goal

pub demand-requires : goal.demand-requires
demand-requires c = has_prices c.args.menu.now _ 400 c.len-few_places.ensures.menu refl refl

pub returns : goal.returns
returns c = best_of_all c.args.menu.now _ 400 _ _ refl c.full-allowed.ensures c.demand.ensures
