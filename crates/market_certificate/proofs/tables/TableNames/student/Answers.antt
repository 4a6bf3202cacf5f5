use Rattle.std.proofs.Common.{ℕ, List, map, ap, sym, ◌∙◌}
use Rattle.std.specs.List.{position}
use Rattle.std.specs.Str.{bytes_eq}
use Rattle.market_units.specs.Name.{name_bytes}
use Rattle.student_roll.specs.Students.{names_of}
use Rattle.market_certificate.proofs.NamesOf.{found_none}
use Rattle.market_certificate.proofs.tables.TableNames.student.Goals as goal

pub returns-clause-none : goal.returns-clause-none
returns-clause-none c =
    found_none (λ s. s.0) c.find.result c.args.bytes.now (map name_bytes c.args.self.now.students.items)
    (c.find.ensures.place ∙ ap (λ (b : List ℕ). position (bytes_eq b) (names_of c.args.self.now.roll.now.students)) c.in_ok-name.ensures.name
    ∙ ap (λ (names : List (List ℕ)). position (bytes_eq c.args.bytes.now) names) (sym c.args.self.now.of_roll))
