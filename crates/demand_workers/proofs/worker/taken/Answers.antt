use Rattle.std.proofs.Common.{◌≡◌, ◌<◌, ◌∙◌, length, ap, sym, subst}
use Rattle.std.specs.Arc.{arc_value}
use Rattle.std.specs.Prelude.{IfSome}
use Rattle.demand_api.specs.Asking.{ArePricesFor}
use Rattle.demand_api.specs.Crowds.{CrowdData}
use Rattle.demand_api.specs.Views.{data_of}
use Rattle.demand_api.proofs.Parts.{students_length}
use Rattle.demand_workers.specs.Views.{crowd_of}
use Rattle.demand_workers.proofs.worker.taken.Goals as goal

pub invariant_of-question : goal.invariant_of-question
invariant_of-question c =
    let lent = c.args.lent.now in
    let same : crowd_of c.in-Some.remembered.now ≡ data_of lent.crowd.now =
    subst (λ o. IfSome o (λ memory. crowd_of memory.now ≡ data_of lent.crowd.now)) c.in-Some.is lent.same in
    record {
      priced = subst (λ (w : CrowdData). ArePricesFor w c.args.prices.now) (sym same) c.requires.prices;
      listed =
          subst (λ n. c.args.student.0 < n)
          (sym (students_length lent.crowd.now) ∙ ap (λ (w : CrowdData). length w.students) (sym same)
          ∙ students_length (arc_value c.in-Some.remembered.now.crowd)) c.requires.student;
    }
