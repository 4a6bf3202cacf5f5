use Rattle.std.proofs.Common.{ℕ, List, map, ap, sym, ◌∙◌}
use Rattle.std.specs.List.{position}
use Rattle.std.specs.Str.{bytes_eq}
use Rattle.market_units.specs.Name.{name_bytes}
use Rattle.course_catalog.specs.Sections.{section_names}
use Rattle.market_certificate.proofs.NamesOf.{found_named, found_none}
use Rattle.market_certificate.proofs.tables.TableNames.section.Goals as goal

pub returns-clause-name : goal.returns-clause-name
returns-clause-name c =
    found_named (λ s. s.0) c.find.result c.args.bytes.now (map name_bytes c.args.self.now.sections.items)
    (c.find.ensures.place ∙ ap (λ (b : List ℕ). position (bytes_eq b) (section_names c.args.self.now.catalog.now.sections)) c.in_ok-name.ensures.name
    ∙ ap (λ (names : List (List ℕ)). position (bytes_eq c.args.bytes.now) names) (sym c.args.self.now.of_catalog))

pub returns-clause-none : goal.returns-clause-none
returns-clause-none c =
    found_none (λ s. s.0) c.find.result c.args.bytes.now (map name_bytes c.args.self.now.sections.items)
    (c.find.ensures.place ∙ ap (λ (b : List ℕ). position (bytes_eq b) (section_names c.args.self.now.catalog.now.sections)) c.in_ok-name.ensures.name
    ∙ ap (λ (names : List (List ℕ)). position (bytes_eq c.args.bytes.now) names) (sym c.args.self.now.of_catalog))
