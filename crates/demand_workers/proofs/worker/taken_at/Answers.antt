use Rattle.std.proofs.Common.{◌≡◌, ◌<◌, ◌∙◌, Vec, Global, length, ap, sym, subst}
use Rattle.std.specs.Arc.{arc_value}
use Rattle.std.specs.Prelude.{IfSome}
use Rattle.market_units.specs.declared.units.Tokens.{Tokens}
use Rattle.demand_api.specs.Asking.{ArePricesFor}
use Rattle.demand_api.specs.Crowds.{CrowdData}
use Rattle.demand_api.specs.Views.{data_of}
use Rattle.demand_api.proofs.Parts.{students_length}
use Rattle.demand_workers.specs.Views.{crowd_of}
use Rattle.demand_workers.proofs.HoldersLeave.{raised_prices}
use Rattle.demand_workers.proofs.worker.taken_at.Goals as goal
use Rattle.demand_workers.proofs.worker.taken_at.Goals.{After-deref-prices}

-- the version's prices
priced : (c : After-deref-prices) → ArePricesFor (data_of c.args.lent.now.crowd.now) c.deref-prices.result.now
priced c =
    let lent = c.args.lent.now in
    subst (ArePricesFor (data_of lent.crowd.now)) (sym (c.deref-prices.ensures.value ∙ ap (λ (w : Vec Tokens Global). w.items) c.index.ensures))
    (lent.priced c.args.task.version c.index.result.now c.requires.task.its_version)

pub taken-requires-clause-prices : goal.taken-requires-clause-prices
taken-requires-clause-prices c = priced (goal.at.taken-requires-clause-prices c).After-deref-prices

pub taken-requires-clause-student : goal.taken-requires-clause-student
taken-requires-clause-student c = subst (λ n. c.args.task.student.0 < n) (students_length c.args.lent.now.crowd.now) c.requires.task.student

pub demanded-requires-clause-prices : goal.demanded-requires-clause-prices
demanded-requires-clause-prices c =
    let crowd = data_of c.args.lent.now.crowd.now in
    subst (ArePricesFor crowd) (sym c.raised_prices-prices.ensures)
    (raised_prices crowd c.deref-prices.result.now c.in-Some.raised.0.0 c.in-Some.raised.1.0
    (priced (goal.at.demanded-requires-clause-prices c).After-deref-prices) (c.requires.task.its_price c.in-Some.raised c.in-Some.is).1)

pub demanded-requires-clause-student : goal.demanded-requires-clause-student
demanded-requires-clause-student c = subst (λ n. c.args.task.student.0 < n) (students_length c.args.lent.now.crowd.now) c.requires.task.student

pub invariant_of-question : goal.invariant_of-question
invariant_of-question c =
    let lent = c.args.lent.now in
    let crowd = data_of lent.crowd.now in
    let same : crowd_of c.in-Some-remembered.remembered.now ≡ crowd =
    subst (λ o. IfSome o (λ memory. crowd_of memory.now ≡ crowd)) c.in-Some-remembered.is lent.same in
    record {
      priced =
          subst (λ (w : CrowdData). ArePricesFor w c.raised_prices-prices.result.now) (sym same)
          (subst (ArePricesFor crowd) (sym c.raised_prices-prices.ensures)
          (raised_prices crowd c.deref-prices.result.now c.in-Some.raised.0.0 c.in-Some.raised.1.0
          (priced (goal.at.invariant_of-question c).After-deref-prices) (c.requires.task.its_price c.in-Some.raised c.in-Some.is).1));
      listed =
          subst (λ n. c.args.task.student.0 < n)
          (ap (λ (w : CrowdData). length w.students) (sym same) ∙ students_length (arc_value c.in-Some-remembered.remembered.now.crowd))
          c.requires.task.student;
    }
