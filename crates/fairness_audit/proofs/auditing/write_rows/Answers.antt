use Rattle.std.proofs.Common.{◌≡◌, ◌<◌, ◌∙◌, Option, ℕ, length, subst, true, arith}
use Rattle.std.specs.Prelude.{IfSome}
use Rattle.std.proofs.lemmas.List.{length-set}
use Rattle.fairness_audit.specs.declared.row.EnvyRow.{EnvyRow}
use Rattle.fairness_audit.specs.Rows.{row}
use Rattle.fairness_audit.specs.SameRows.{same_row}
use Rattle.fairness_audit.specs.Views.{row_of}
use Rattle.fairness_audit.proofs.Listing.{each_written}
use Rattle.fairness_audit.proofs.SameRows.{row_same}
use Rattle.fairness_audit.proofs.auditing.write_rows.Goals as goal

pub students-preserved : goal.students-preserved
students-preserved c =
    let terms = c.args.answers.now.terms in
    let k : ℕ = c.students.place in
    let right : same_row (row_of c.in-Some.row) (row terms.allocation k) ≡ true =
    subst (λ (o : Option EnvyRow). IfSome o (λ r. same_row (row_of r) (row terms.allocation k) ≡ true)) c.in-Some.is c.answer.ensures.right in
    record {
      count = length-set c.students.rows c.students.place c.in-Some.row ∙ c.students.invariant.count;
      each = each_written (λ i posted. row_of posted ≡ row terms.allocation i) c.students.rows c.students.place c.in-Some.row
          (let n : ℕ = length c.students.rows in let m : ℕ = length c.args.rows.now in let same : n ≡ m = c.students.invariant.count in
          let low : k < m = c.students-test.true in let goal : k < n = omega arith in goal)
          c.students.invariant.each (row_same (row_of c.in-Some.row) (row terms.allocation k) right);
    }
