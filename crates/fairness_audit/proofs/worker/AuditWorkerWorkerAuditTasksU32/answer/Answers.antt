use Rattle.std.proofs.Common.{◌≡◌, ◌<◌, ◌∙◌, true, ap, subst, sym}
use Rattle.fairness_audit.specs.Allocations.{Allocation, student_count}
use Rattle.fairness_audit.specs.Rows.{row}
use Rattle.fairness_audit.specs.SameRows.{same_row}
use Rattle.fairness_audit.specs.Views.{row_of}
use Rattle.fairness_audit.proofs.Allocated.{count_is}
use Rattle.fairness_audit.proofs.SameRows.{row_own}
use Rattle.fairness_audit.proofs.worker.AuditWorkerWorkerAuditTasksU32.answer.Goals as goal

pub count_envy-requires-clause-student : goal.count_envy-requires-clause-student
count_envy-requires-clause-student g c =
    let worker = c.args.self.now in
    subst (λ n. c.args.student < n) (ap student_count worker.same ∙ count_is worker.allocated.crowd.now worker.allocated.bundles.now)
    c.requires.named

pub returns-clause-right : goal.returns-clause-right
returns-clause-right g c =
    let found = row_of c.count_envy.result in
    subst (λ r. same_row found r ≡ true) (c.count_envy.ensures ∙ ap (λ (a : Allocation). row a c.args.student) (sym c.args.self.now.same))
    (row_own found)
