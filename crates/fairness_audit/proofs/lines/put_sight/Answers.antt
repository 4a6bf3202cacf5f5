use Rattle.std.proofs.Common.{◌≡◌, ◌++◌, ◌∷◌, ◌∙◌, List, ℕ, ap}
use Rattle.std.specs.Prelude.{codes, option_map}
use Rattle.market_units.specs.Name.{name_bytes}
use Rattle.market_units.specs.declared.units.SectionNo.{SectionNo}
use Rattle.bundle_rules.specs.Bundles.{sections_of}
use Rattle.course_catalog.specs.Sections.{section_names}
use Rattle.market_certificate.specs.Tables.{name_at}
use Rattle.market_certificate.specs.Texts.{bundle_text}
use Rattle.student_roll.specs.Students.{names_of}
use Rattle.fairness_audit.specs.Texts.{ending}
use Rattle.fairness_audit.proofs.RowTexts.{sight_text}
use Rattle.fairness_audit.proofs.lines.put_sight.Goals as goal
use Rattle.student_roll.proofs.RollNames.{student_name}

pub returns : goal.returns
returns c =
    let seen = c.args.seen.now in
    let names : List (List ℕ) = section_names c.args.catalog.now.sections in
    let named : c.bytes.result.now ≡ name_at (names_of c.args.roll.now.students) seen.student.0 =
    c.bytes.ensures.value ∙ student_name c.args.roll.now.students seen.student.0 (name_bytes c.name.result) c.requires.student c.name.ensures in
    sight_text c.args.text.now.items (codes "sees") (name_at (names_of c.args.roll.now.students) seen.student.0) (bundle_text names (sections_of seen.bundle)) (ending names (option_map (λ (s : SectionNo). s.0) seen.without))
    c.extend_from_slice.new.self.items c.put_field.new.text.items c.put_bundle_field.new.text.items c.put_ending.new.text.items c.push.new.self.items
    c.in_ok-extend_from_slice.ensures.items (c.in_ok-put_field.ensures ∙ ap (λ bytes. c.extend_from_slice.new.self.items ++ 32 ∷ bytes) named)
    c.in_ok-put_bundle_field.ensures c.in_ok-put_ending.ensures c.in_ok-push.ensures.items
