-- The waiting list of one section, read off a history of requests and replies. Steps are numbered
-- from 0.
use Rattle.std.specs.Prelude.{ℕ, zero, suc, ◌+◌, ◌==◌, Bool, true, false, not, ◌&&◌, if◌then◌else◌, Option, None, Some, List, [], ◌∷◌, ◌++◌, take, drop}
use Rattle.std.specs.List.{filter}
use Rattle.market_units.specs.Totals.{total}
use Rattle.chronicle.specs.declared.journal.StepOf.{StepOf}
use Rattle.market_units.specs.declared.units.StudentNo.{StudentNo}
use Rattle.dropadd_desk.specs.declared.command.HallCommand.{HallCommand}
use Rattle.dropadd_desk.specs.declared.command.HallCommand.TheVariants.{Add, Drop, Leave, Unreadable}
use Rattle.dropadd_desk.specs.declared.reply.HallReply.{HallReply}
use Rattle.dropadd_desk.specs.declared.reply.HallReply.TheVariants as reply
use Rattle.dropadd_desk.specs.Market.{Market, section_named, student_named}
use Rattle.dropadd_desk.specs.Step.{known}

-- a request and the reply to it, and the session that made it
abbrev pub HallStep : Type 0
HallStep = StepOf HallCommand HallReply

-- whether the request names the section
abbrev pub names_section : Market → ℕ → HallCommand → Bool
names_section market s (Add student section) =
    known (section_named market section) false (λ t. t == s)
names_section market s (Drop student section) =
    known (section_named market section) false (λ t. t == s)
names_section market s (Leave student section) =
    known (section_named market section) false (λ t. t == s)
names_section market s Unreadable = false

-- the student that a request names; 0 where it names none
abbrev pub named_student : Market → HallCommand → ℕ
named_student market (Add student section) = known (student_named market student) 0 (λ i. i)
named_student market (Drop student section) = known (student_named market student) 0 (λ i. i)
named_student market (Leave student section) = known (student_named market student) 0 (λ i. i)
named_student market Unreadable = 0

-- a ticket: the place in the list that a student was given by the step of this number
pub record Ticket : Type 0 where
  pub number : ℕ
  pub student : ℕ

-- who waits, the one who waits longest first; whom a seat that was given up went to or passed by,
-- in the order in which this was; and who left
pub record Line : Type 0 where
  pub waiting : List Ticket
  pub given_or_lapsed : List Ticket
  pub left : List Ticket

abbrev pub no_line : Line
no_line = record { waiting = []; given_or_lapsed = []; left = [] }

-- one where there is a next student
abbrev pub one_next : Option StudentNo → ℕ
one_next None = 0
one_next (Some next) = 1

-- the line after the step of this number, of this student, was replied to
abbrev pub noted : ℕ → ℕ → HallReply → Line → Line
noted number i (reply.Queued ahead) line =
    record {
      waiting = line.waiting ++ record { number = number; student = i } ∷ [];
      given_or_lapsed = line.given_or_lapsed;
      left = line.left;
    }
noted number i (reply.Dropped lapsed next) line = record {
  waiting = drop (lapsed + one_next next) line.waiting;
  given_or_lapsed = line.given_or_lapsed ++ take (lapsed + one_next next) line.waiting;
  left = line.left;
}
noted number i reply.Left line = record {
  waiting = filter (λ (ticket : Ticket). not (ticket.student == i)) line.waiting;
  given_or_lapsed = line.given_or_lapsed;
  left = line.left ++ filter (λ (ticket : Ticket). ticket.student == i) line.waiting;
}
noted number i _ line = line

-- the line after a step: those that name another section leave it as it was
abbrev pub line_after : Market → ℕ → ℕ → HallStep → Line → Line
line_after market s number step line =
    if names_section market s step.request
    then noted number (named_student market step.request) step.reply line else line

-- the line after these steps, of which the first has this number
abbrev pub line_from : Market → ℕ → ℕ → List HallStep → Line → Line
line_from market s number [] line = line
line_from market s number (step ∷ more) line =
    line_from market s (number + 1) more (line_after market s number step line)

-- the line of a section after a history
abbrev pub line_of : Market → ℕ → List HallStep → Line
line_of market s history = line_from market s 0 history no_line

-- how often the ticket of a step's number is among these
abbrev pub tickets_of : ℕ → List Ticket → ℕ
tickets_of number tickets =
    total (λ (ticket : Ticket). if ticket.number == number then 1 else 0) tickets

-- kinds of replies
abbrev pub is_queued : HallReply → Bool
is_queued (reply.Queued ahead) = true
is_queued _ = false

abbrev pub is_added : HallReply → Bool
is_added reply.Added = true
is_added _ = false

abbrev pub is_dropped : HallReply → Bool
is_dropped (reply.Dropped lapsed next) = true
is_dropped _ = false

abbrev pub is_passed_on : HallReply → Bool
is_passed_on (reply.Dropped lapsed (Some next)) = true
is_passed_on _ = false

-- whether a reply refuses the request: each does but `Added`, `Queued`, `Dropped` and `Left`
abbrev pub is_refusal : HallReply → Bool
is_refusal reply.Added = false
is_refusal (reply.Queued ahead) = false
is_refusal (reply.Dropped lapsed next) = false
is_refusal reply.Left = false
is_refusal _ = true

-- whether the step of this number gave a ticket for the section
abbrev pub gives_ticket : Market → ℕ → List HallStep → ℕ → Bool
gives_ticket market s [] number = false
gives_ticket market s (step ∷ more) zero =
    names_section market s step.request && is_queued step.reply
gives_ticket market s (step ∷ more) (suc number) = gives_ticket market s more number

-- how many requests that name the section had a reply of this kind
abbrev pub replies : Market → ℕ → (HallReply → Bool) → List HallStep → ℕ
replies market s kind history =
    total
    (λ (step : HallStep). if names_section market s step.request && kind step.reply then 1 else 0)
    history
