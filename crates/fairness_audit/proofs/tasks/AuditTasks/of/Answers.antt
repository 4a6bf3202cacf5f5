use Rattle.std.proofs.Common.{ℕ, ◌≡◌, ◌≤◌, Fits, w32, arith, length}
use Rattle.std.specs.Arc.{arc_value}
use Rattle.demand_api.specs.Views.{data_of}
use Rattle.demand_api.proofs.Parts.{students_few}
use Rattle.fairness_audit.proofs.tasks.AuditTasks.of.Goals as goal
use Rattle.demand_api.proofs.Counts.{crowd_counted}

pub overflow_cast-students : goal.overflow_cast-students
overflow_cast-students c =
    let n : ℕ = c.len-students.result in
    let few : length (data_of (arc_value c.args.crowd)).students ≤ 2000 = students_few (arc_value c.args.crowd) in
    let is : n ≡ length (data_of (arc_value c.args.crowd)).students =
    crowd_counted c.len-students.result (arc_value c.args.crowd) c.deref.result.now c.len-students.ensures c.deref.ensures in
    let goal : Fits w32 n = omega arith in goal

pub invariant_of-result : goal.invariant_of-result
invariant_of-result c = record {
  counted = crowd_counted c.len-students.result (arc_value c.args.crowd) c.deref.result.now c.len-students.ensures c.deref.ensures;
}
