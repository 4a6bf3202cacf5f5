use Rattle.std.proofs.Common.{◌≡◌, length}
use Rattle.market_units.specs.declared.limits.TheConstants.{MAX_RATINGS}
use Rattle.bundle_rules.specs.Demand.{price_in}
use Rattle.demand_workers.proofs.Noting.{AreAmong}
use Rattle.demand_workers.proofs.question.Question.note.Given as goal

-- the prices of the places so far
abbrev pub invariant-loop-place : goal.invariant-loop-place
invariant-loop-place l = record {
  len : length l.prices ≡ MAX_RATINGS;
  among : AreAmong l.places l.prices (price_in l.fn.self.prices.now) l.place;
}
