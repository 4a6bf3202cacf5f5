use Rattle.std.proofs.Common.{◌<◌, ◌∙◌, ℕ, All, length, ap, sym, subst}
use Rattle.std.specs.Arc.{arc_value}
use Rattle.market_units.specs.declared.units.StudentNo.{StudentNo}
use Rattle.demand_api.specs.Crowds.{CrowdData}
use Rattle.demand_api.proofs.Parts.{students_length}
use Rattle.demand_workers.specs.Views.{crowd_of}
use Rattle.demand_workers.proofs.pooled_demands.PooledDemandsAnyGateDemands.bundles.Goals as goal

pub read_listed-requires-clause-students : goal.read_listed-requires-clause-students
read_listed-requires-clause-students g c =
    subst (λ (n : ℕ). All (λ (student : StudentNo). student.0 < n) c.args.students.now)
    (ap (λ (w : CrowdData). length w.students) (sym (ap crowd_of c.deref.ensures ∙ c.in_ok-remembered.ensures.crowd))
    ∙ students_length (arc_value c.deref.result.now.crowd))
    c.requires.range
