-- Whether a student holds a section, read off a history of requests and replies alone.
use Rattle.std.specs.Prelude.{ℕ, ◌==◌, Bool, false, not, ◌&&◌, ◌||◌, if◌then◌else◌, Option, None, Some, List, [], ◌∷◌}
use Rattle.market_units.specs.declared.units.StudentNo.{StudentNo}
use Rattle.dropadd_desk.specs.declared.command.HallCommand.{HallCommand}
use Rattle.dropadd_desk.specs.declared.command.HallCommand.TheVariants.{Add, Drop, Leave, Unreadable}
use Rattle.dropadd_desk.specs.declared.reply.HallReply.{HallReply}
use Rattle.dropadd_desk.specs.declared.reply.HallReply.TheVariants as reply
use Rattle.dropadd_desk.specs.Market.{Market, student_named}
use Rattle.dropadd_desk.specs.Step.{known}
use Rattle.dropadd_desk.specs.Lines.{HallStep, names_section}

-- whether the request names the student
abbrev pub names_student : Market → ℕ → HallCommand → Bool
names_student market i (Add student section) =
    known (student_named market student) false (λ j. j == i)
names_student market i (Drop student section) =
    known (student_named market student) false (λ j. j == i)
names_student market i (Leave student section) =
    known (student_named market student) false (λ j. j == i)
names_student market i Unreadable = false

-- whether the student is the next one, to whom a seat was passed on
abbrev pub is_next : ℕ → Option StudentNo → Bool
is_next i None = false
is_next i (Some next) = next.0 == i

-- Whether the student holds the section after a reply about it, to a request that names this
-- student or another one. A student who is added, and the next one, holds it from then on; a
-- student who gives it up does not; in each other case it is as before.
abbrev pub held_after_reply : ℕ → Bool → HallReply → Bool → Bool
held_after_reply i is_named reply.Added before = is_named || before
held_after_reply i is_named (reply.Dropped lapsed next) before =
    is_next i next || (not is_named && before)
held_after_reply i is_named _ before = before

-- whether the student holds the section after a step: one that names another section leaves it as
-- it was
abbrev pub held_after : Market → ℕ → ℕ → HallStep → Bool → Bool
held_after market s i step before =
    if names_section market s step.request
    then held_after_reply i (names_student market i step.request) step.reply before else before

-- whether the student holds the section after these steps
abbrev pub held_by_replies : Market → ℕ → ℕ → List HallStep → Bool → Bool
held_by_replies market s i [] before = before
held_by_replies market s i (step ∷ more) before =
    held_by_replies market s i more (held_after market s i step before)
