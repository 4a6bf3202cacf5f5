-- What an audit asks of its board.
use Rattle.std.specs.Prelude.{ℕ, Bool}
use Rattle.task_board.specs.Rules.{Rules, all_asked}
use Rattle.fairness_audit.specs.declared.row.EnvyRow.{EnvyRow}
use Rattle.fairness_audit.specs.declared.terms.Terms.{Terms}
use Rattle.fairness_audit.specs.Allocations.{student_count}
use Rattle.fairness_audit.specs.Rows.{row}
use Rattle.fairness_audit.specs.SameRows.{same_row}
use Rattle.fairness_audit.specs.Views.{row_of}

-- the row is that of the student
abbrev pub is_row : Terms → ℕ → EnvyRow → Bool
is_row terms student posted = same_row (row_of posted) (row terms.allocation student)

-- A task for each student: its row. No task is over before it is posted
abbrev pub audit_rules : Rules Terms EnvyRow
audit_rules = all_asked (λ terms. student_count terms.allocation) is_row
