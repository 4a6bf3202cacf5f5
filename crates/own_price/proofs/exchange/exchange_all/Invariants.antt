use Rattle.std.proofs.Common.{◌≡◌, length, take}
use Rattle.demand_api.specs.Counting.{IsTally}
use Rattle.own_price.specs.Exchanges.{exchanged}
use Rattle.own_price.proofs.exchange.exchange_all.Given as goal

abbrev pub invariant-loop-place : goal.invariant-loop-place
invariant-loop-place l =
    (l.bundles ≡ exchanged l.initial.bundles (take l.place l.students) (take l.place l.others)) × IsTally (length l.initial.counts) l.bundles l.counts
