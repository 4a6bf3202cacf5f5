use Rattle.std.specs.Arc.{arc_value}
use Rattle.std.specs.FinSet as set
use Rattle.bundle_rules.specs.Bundles.{sections_of}
use Rattle.bundle_rules.specs.Demand.{price_in}
use Rattle.demand_oracle.specs.BestViews.{bundles_of}
use Rattle.demand_workers.proofs.Noting.{first_listed, some_listed}
use Rattle.demand_workers.proofs.question.Question.first_of.Goals as goal

pub first-requires : goal.first-requires
first-requires c =
    let question = c.args.self.now in
    some_listed (arc_value question.remembered.now.crowd) (price_in question.prices.now) question.student.0 (set.contains question.remembered.now.allowed)
    (bundles_of c.args.best.now) question.listed c.requires

pub returns : goal.returns
returns c =
    let question = c.args.self.now in
    first_listed (arc_value question.remembered.now.crowd) (price_in question.prices.now) question.student.0 (set.contains question.remembered.now.allowed)
    (bundles_of c.args.best.now) c.first.ensures.0 (sections_of c.first.result) question.listed question.remembered.now.every c.requires c.first.ensures.1
