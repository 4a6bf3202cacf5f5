use Rattle.std.proofs.Common.{◌∙◌, ap, sym}
use Rattle.fairness_audit.specs.declared.terms.Terms.{Terms}
use Rattle.fairness_audit.specs.Allocations.{student_count}
use Rattle.fairness_audit.specs.Rows.{row}
use Rattle.fairness_audit.proofs.auditing.work_and_write.Goals as goal

pub write_rows-requires-clause-count : goal.write_rows-requires-clause-count
write_rows-requires-clause-count g c = c.requires.rows ∙ ap (λ (t : Terms). student_count t.allocation) (sym c.close-answers.ensures.terms)

pub returns-clause-each : goal.returns-clause-each
returns-clause-each g c =
    λ i d low. c.write_rows.ensures.each i d low ∙ ap (λ (t : Terms). row t.allocation i) c.close-answers.ensures.terms
