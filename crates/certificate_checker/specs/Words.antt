-- The words of a finding, in which students and sections stand by their names.
use Rattle.std.specs.Prelude.{ℕ, ⊤, ◌<◌, List, ◌++◌, codes, length}
use Rattle.std.specs.Fmt.{decimal}
use Rattle.market_certificate.specs.Tables.{Tables, name_at}
use Rattle.market_certificate.specs.declared.refusals.LineFault.{LineFault}
use Rattle.market_certificate.specs.declared.refusals.LineFault.TheVariants as line
use Rattle.proof_tree.specs.declared.defects.TreeDefect.{TreeDefect}
use Rattle.proof_tree.specs.declared.defects.TreeDefect.TheVariants as tree
use Rattle.certificate_checker.specs.declared.findings.Finding.{Finding}
use Rattle.certificate_checker.specs.declared.findings.Finding.TheVariants.{Text, Journal, Budget, Unaffordable, Infeasible, Tree, Seats, Turn, NotQuiet, Allocation, Used}
use Rattle.certificate_checker.specs.declared.findings.TurnFault.{TurnFault}
use Rattle.certificate_checker.specs.declared.findings.TurnFault.TheVariants as fault

-- what is wrong with a line
abbrev pub line_words : LineFault → List ℕ
line_words line.Missing = codes "missing"
line_words line.Form = codes "form"
line_words line.Rest = codes "rest"

-- what is wrong with a tree, and at which byte
abbrev pub defect_words : TreeDefect → List ℕ
defect_words (tree.Syntax at) = codes "tree syntax at " ++ decimal at
defect_words (tree.NotClosed at) = codes "tree open at " ++ decimal at
defect_words (tree.Redundant at) = codes "tree redundant at " ++ decimal at
defect_words (tree.WrongLeaf at) = codes "tree leaf at " ++ decimal at
defect_words (tree.WrongBranch at) = codes "tree branch at " ++ decimal at
defect_words (tree.Rest at) = codes "tree rest at " ++ decimal at

-- what is wrong with a turn
abbrev pub fault_words : TurnFault → List ℕ
fault_words fault.Order = codes "order"
fault_words fault.Unaffordable = codes "unaffordable"
fault_words fault.Infeasible = codes "infeasible"
fault_words fault.Taken = codes "taken"
fault_words (fault.Tree defect) = defect_words defect

-- the words of a finding on a text of these tables
abbrev pub finding_words : Tables → Finding → List ℕ
finding_words tables (Text number kind) = codes "line " ++ decimal number ++ codes " " ++ line_words kind
finding_words tables (Journal at) = codes "journal at " ++ decimal at
finding_words tables (Budget student) = codes "budget " ++ name_at tables.students student.0
finding_words tables (Unaffordable student) = codes "student " ++ name_at tables.students student.0 ++ codes " unaffordable"
finding_words tables (Infeasible student) = codes "student " ++ name_at tables.students student.0 ++ codes " infeasible"
finding_words tables (Tree student defect) = codes "student " ++ name_at tables.students student.0 ++ codes " " ++ defect_words defect
finding_words tables (Seats section used seats) = codes "seats " ++ name_at tables.sections section.0 ++ codes " " ++ decimal used ++ codes " of " ++ decimal seats
finding_words tables (Turn turn fault) = codes "turn " ++ decimal turn ++ codes " " ++ fault_words fault
finding_words tables (NotQuiet turns) = codes "not quiet after " ++ decimal turns ++ codes " turns"
finding_words tables (Allocation student) = codes "final " ++ name_at tables.students student.0
finding_words tables (Used section) = codes "used " ++ name_at tables.sections section.0

-- the line that tells a finding
abbrev pub finding_line : Tables → Finding → List ℕ
finding_line tables finding = codes "finding: " ++ finding_words tables finding ++ codes "\n"

-- the student or the section that a finding names is one of the tables
abbrev pub IsNamedIn : Tables → Finding → Type 0
IsNamedIn tables (Text number kind) = ⊤
IsNamedIn tables (Journal at) = ⊤
IsNamedIn tables (Budget student) = student.0 < length tables.students
IsNamedIn tables (Unaffordable student) = student.0 < length tables.students
IsNamedIn tables (Infeasible student) = student.0 < length tables.students
IsNamedIn tables (Tree student defect) = student.0 < length tables.students
IsNamedIn tables (Seats section used seats) = section.0 < length tables.sections
IsNamedIn tables (Turn turn fault) = ⊤
IsNamedIn tables (NotQuiet turns) = ⊤
IsNamedIn tables (Allocation student) = student.0 < length tables.students
IsNamedIn tables (Used section) = section.0 < length tables.sections
