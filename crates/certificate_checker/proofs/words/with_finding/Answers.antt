use Rattle.std.proofs.Common.{ℕ, ◌≡◌, ◌++◌, ◌∙◌, List, Some, ap}
use Rattle.std.specs.Prelude.{option_map, slice_get}
use Rattle.student_roll.specs.Students.{Student, names_of}
use Rattle.market_certificate.specs.Tables.{name_at}
use Rattle.certificate_checker.proofs.Naming.{student_name}
use Rattle.certificate_checker.proofs.Telling.{two_behind, three_behind}
use Rattle.certificate_checker.proofs.words.with_finding.Goals as goal

-- the name of a student behind a line
named : (students : List Student) (n : ℕ) (front name line : List ℕ) → line ≡ front ++ name
    → option_map (λ (s : Student). s.name) (slice_get students n) ≡ Some name → line ≡ front ++ name_at (names_of students) n
named students n front name line is told = is ∙ ap (λ bytes. front ++ bytes) (student_name students n name told)

pub returns-in-Unaffordable-clause-words : goal.returns-in-Unaffordable-clause-words
returns-in-Unaffordable-clause-words c =
    rw c.in-Unaffordable.is
    (three_behind c.args.line _ _ _ _ _ _ c.with-in-Unaffordable-2.ensures.line
    (named c.args.roll.now.students _ _ _ _ c.with_name-in-Unaffordable.ensures.words c.name-in-Unaffordable.ensures)
    c.with-in-Unaffordable.ensures.line)

pub returns-in-Infeasible-clause-words : goal.returns-in-Infeasible-clause-words
returns-in-Infeasible-clause-words c =
    rw c.in-Infeasible.is
    (three_behind c.args.line _ _ _ _ _ _ c.with-in-Infeasible-2.ensures.line
    (named c.args.roll.now.students _ _ _ _ c.with_name-in-Infeasible.ensures.words c.name-in-Infeasible.ensures)
    c.with-in-Infeasible.ensures.line)

pub returns-in-Tree-clause-words : goal.returns-in-Tree-clause-words
returns-in-Tree-clause-words c =
    rw c.in-Tree.is
    (two_behind c.args.line _ _ _ _ c.with_defect.ensures.words
    (three_behind c.args.line _ _ _ _ _ _ c.with-line-in-Tree.ensures.line
    (named c.args.roll.now.students _ _ _ _ c.with_name-in-Tree.ensures.words c.name-in-Tree.ensures) c.with-in-Tree.ensures.line))

pub returns-in-NotQuiet-clause-words : goal.returns-in-NotQuiet-clause-words
returns-in-NotQuiet-clause-words c =
    rw c.in-NotQuiet.is
    (three_behind c.args.line _ _ _ _ _ _ c.with-in-NotQuiet-2.ensures.line c.with_count-in-NotQuiet.ensures.words c.with-in-NotQuiet.ensures.line)

pub returns-in-Allocation-clause-words : goal.returns-in-Allocation-clause-words
returns-in-Allocation-clause-words c =
    rw c.in-Allocation.is
    (two_behind c.args.line _ _ _ _ (named c.args.roll.now.students _ _ _ _ c.with_name-in-Allocation.ensures.words c.name-in-Allocation.ensures)
    c.with-in-Allocation.ensures.line)
