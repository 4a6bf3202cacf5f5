-- What a round asks of its board.
use Rattle.std.specs.Prelude.{ℕ, ◌/◌, ◌%◌, Bool, false, Option, None, Some, List, slice_index_or}
use Rattle.bundle_rules.specs.declared.bundle.Bundle.{Bundle}
use Rattle.bundle_rules.specs.Bundles.{sections_of}
use Rattle.task_board.specs.Rules.{Rules}
use Rattle.price_board.specs.declared.round.Ask.{Ask}
use Rattle.price_board.specs.declared.round.Task.{Task}
use Rattle.price_board.specs.declared.terms.Terms.{Terms}
use Rattle.price_board.specs.Rows.{row_of}
use Rattle.price_board.specs.Settling.{ask_of, is_settled, count_for}
use Rattle.price_board.specs.Tasks.{no_task}
use Rattle.price_board.specs.Terms.{student_count, count_in, demand_at, same_sections}

-- with no list, the version and the student of a task
abbrev pub version_at : Terms → ℕ → ℕ
version_at terms number = number / student_count terms

abbrev pub student_at : Terms → ℕ → ℕ
student_at terms number = number % student_count terms

-- the task with this number: each student's at each version, or that of this list
abbrev pub task_in : Option (List Task) → Terms → ℕ → Task
task_in None terms number =
    record {
      version = version_at terms number;
      student = record { 0 = student_at terms number };
      raised = None;
    }
task_in (Some list) terms number = slice_index_or list number no_task

-- the task with this number
abbrev pub task_at : Terms → ℕ → Task
task_at terms number = task_in terms.list terms number

-- the version of a task, and what is asked of it; nothing of a list's
abbrev pub asked_of : Option (List Task) → Terms → ℕ → Option (ℕ × Ask)
asked_of None terms number =
    Some (version_at terms number, ask_of terms.asks (version_at terms number))
asked_of (Some list) terms number = None

-- what the student of a task takes at the prices of the task
abbrev pub is_taken : Option (List Task) → Terms → ℕ → Bundle → Bool
is_taken list terms number bundle =
    same_sections (sections_of bundle) (demand_at terms (task_in list terms number))

-- what is posted decides the version of the task; a task of a list is asked until it is posted
abbrev pub is_over : Option (List Task) → Terms → List (Option Bundle) → ℕ → Bool
is_over None terms answers number =
    is_settled (ask_of terms.asks (version_at terms number))
    (row_of terms answers (version_at terms number))
is_over (Some list) terms answers number = false

-- how many posted bundles of that version have the section that is asked of; none where there is a
-- list
abbrev pub counted : Option (List Task) → Terms → List (Option Bundle) → ℕ → ℕ
counted None terms answers number =
    count_for (ask_of terms.asks (version_at terms number))
    (row_of terms answers (version_at terms number))
counted (Some list) terms answers number = 0

-- the rules of the tasks of this list, or else of each student's at each version
abbrev pub rules_in : Option (List Task) → Rules Terms Bundle
rules_in list =
    record {
      count = count_in list;
      is_right = is_taken list;
      is_over = is_over list;
      tally = counted list;
    }

-- A task for each version and student, or those of the list. What the student takes at the task's
-- prices is right; with no list the task is over where the version is settled
abbrev pub round_rules : Rules Terms Bundle
round_rules =
    record {
      count = λ terms. count_in terms.list terms;
      is_right = λ terms. is_taken terms.list terms;
      is_over = λ terms. is_over terms.list terms;
      tally = λ terms. counted terms.list terms;
    }
