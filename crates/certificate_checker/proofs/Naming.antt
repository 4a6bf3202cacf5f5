-- Whom a finding names.
use Rattle.std.proofs.Common.{ℕ, zero, suc, ◌≡◌, ◌<◌, List, [], ◌∷◌, Some, length, arith}
use Rattle.std.specs.Prelude.{option_map, slice_get}
use Rattle.std.proofs.lemmas.List.{length-map}
use Rattle.course_catalog.specs.Sections.{Section}
use Rattle.student_roll.specs.Students.{Student, names_of}
use Rattle.market_certificate.specs.Tables.{name_at}
use Rattle.utility_language.specs.declared.commands.Command.{Command}
use Rattle.demand_api.specs.Crowds.{CrowdData}
use Rattle.published_parts.specs.Crowds.{IsCrowdAfter}
use Rattle.published_parts.specs.Markets.{Market, tables_in}
use Rattle.certificate_checker.specs.declared.findings.Finding.{Finding}
use Rattle.certificate_checker.specs.declared.findings.Finding.TheVariants.{Allocation, Budget, Infeasible, Journal, NotQuiet, Seats, Text, Tree, Turn, Unaffordable, Used}
use Rattle.certificate_checker.specs.Findings.{IsFirstFinding}
use Rattle.certificate_checker.specs.Words.{IsNamedIn}
use Rattle.certificate_checker.proofs.Composing.{crowd_length}

-- the name of a student and of a section
pub student_name : (students : List Student) (n : ℕ) (name : List ℕ) → option_map (λ (s : Student). s.name) (slice_get students n) ≡ Some name
    → name ≡ name_at (names_of students) n
student_name [] n name e = cc
student_name (s ∷ students) zero name e = cc
student_name (s ∷ students) (suc n) name e = student_name students n name e

-- a student of the crowd is on the roll, and a section of the crowd is in the catalogue
module _ (market : Market) (streams : List (List Command)) (order : List ℕ) (crowd : CrowdData) (n : ℕ) (is : IsCrowdAfter market streams order crowd) where
  on_roll : n < length crowd.students → n < length (tables_in market).students
  on_roll low = let same = crowd_length market streams order crowd is in let all = length-map market.roll.students (λ (s : Student). s.name) in omega arith

  in_catalog : n < crowd.sections → n < length (tables_in market).sections
  in_catalog low = let same = is.is_crowd.sections in let all = length-map market.catalog.sections (λ (s : Section). s.name) in omega arith

-- whom the first finding names is one of the tables
pub named_in : (market : Market) (streams : List (List Command)) (text : List ℕ) (finding : Finding) → IsFirstFinding market streams text finding
    → IsNamedIn (tables_in market) finding
named_in market streams text (Text line kind) is = tt
named_in market streams text (Journal at) is = tt
named_in market streams text (Budget student) (p, of, (crowd, after, first)) = on_roll market streams p.order crowd student.0 after first.found.within
named_in market streams text (Unaffordable student) (p, of, (crowd, after, first)) = on_roll market streams p.order crowd student.0 after first.found.0.within
named_in market streams text (Infeasible student) (p, of, (crowd, after, first)) = on_roll market streams p.order crowd student.0 after first.found.0.within
named_in market streams text (Tree student defect) (p, of, (crowd, after, first)) = on_roll market streams p.order crowd student.0 after first.found.0.within
named_in market streams text (Seats section used seats) (p, of, (crowd, after, first)) =
    in_catalog market streams p.order crowd section.0 after first.found.0.within
named_in market streams text (Turn turn fault) is = tt
named_in market streams text (NotQuiet turns) is = tt
named_in market streams text (Allocation student) (p, of, (crowd, after, first)) = on_roll market streams p.order crowd student.0 after first.found.within
named_in market streams text (Used section) (p, of, (crowd, after, first)) = in_catalog market streams p.order crowd section.0 after first.found.within
