use Rattle.std.proofs.Common.{◌≡◌, ◌<◌, ℕ, length, slice_index_or}
use Rattle.fairness_audit.specs.Rows.{row}
use Rattle.fairness_audit.specs.Views.{row_of}
use Rattle.fairness_audit.proofs.auditing.write_rows.Given as goal

-- the rows so far
abbrev pub invariant-students : goal.invariant-students
invariant-students l = record {
  count : length l.rows ≡ length l.initial.rows;
  each : (i : ℕ) (d : _) → i < l.place → row_of (slice_index_or l.rows i d) ≡ row l.answers.terms.allocation i;
}
