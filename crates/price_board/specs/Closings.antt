-- A round that has come to its end.
use Rattle.std.specs.Prelude.{ℕ, ◌≡◌, ◌<◌, ◌≤◌, Bool, true, Option, Some, None, IsSome, List, length, nat_lt}
use Rattle.market_units.specs.declared.limits.TheConstants.{MAX_STUDENTS}
use Rattle.bundle_rules.specs.declared.bundle.Bundle.{Bundle}
use Rattle.task_board.specs.declared.mark.Mark.{Mark}
use Rattle.task_board.specs.Marks.{answer_in, answers_in, mark_at}
use Rattle.price_board.specs.declared.round.Ask.{Ask}
use Rattle.price_board.specs.declared.round.Ask.TheVariants.{Counts, Exceeds}
use Rattle.price_board.specs.declared.round.Task.{Task}
use Rattle.price_board.specs.declared.terms.Terms.{Terms}
use Rattle.price_board.specs.Rows.{row_of}
use Rattle.price_board.specs.Settling.{ask_of, is_settled}
use Rattle.price_board.specs.Terms.{student_count, task_count, version_count, count_of}

-- each version is settled, or each task of this list is posted
abbrev pub AreSettledIn : Option (List Task) → Terms → List (Mark Bundle) → Type 0
AreSettledIn None terms marks =
    (version : ℕ) → version < version_count terms
    → is_settled (ask_of terms.asks version) (row_of terms (answers_in marks) version) ≡ true
AreSettledIn (Some list) terms marks =
    (number : ℕ) → number < length list → IsSome (answer_in (mark_at marks number))

-- each version is settled, or where there is a list, each of its tasks is posted
abbrev pub AreSettled : Terms → List (Mark Bundle) → Type 0
AreSettled terms marks = AreSettledIn terms.list terms marks

-- whether more students than the limit take it
abbrev pub exceeds_at : Terms → ℕ → Ask → Option Bool
exceeds_at terms version Counts = None
exceeds_at terms version (Exceeds section limit) =
    Some (nat_lt limit (count_of terms version section.0))

-- the same of a version, by what is asked of it
abbrev pub exceeds_of : Terms → ℕ → Option Bool
exceeds_of terms version = exceeds_at terms version (ask_of terms.asks version)

-- nothing of the kind is asked of a version where there is a list
abbrev pub exceeds_in : Option (List Task) → Terms → ℕ → Option Bool
exceeds_in None terms version = exceeds_of terms version
exceeds_in (Some list) terms version = None

-- a round whose versions are all settled, with a mark for each task, of so many students
pub record IsEnded (terms : Terms) (marks : List (Mark Bundle)) (students : ℕ) : Type 0 where
  pub each : length marks ≡ task_count terms
  pub settled : AreSettled terms marks
  pub students_are : students ≡ student_count terms
  pub few_students : students ≤ MAX_STUDENTS
