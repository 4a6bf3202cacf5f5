use Rattle.std.proofs.Common.{of_z, to_z, w64, ◌≡◌, ◌∙◌, ◌++◌, ◌∷◌, [], Option, ap, sym, subst, arith, length}
use Rattle.std.specs.Prelude.{ℤ, ◌-ℤ◌, IfSome, option_map}
use Rattle.std.proofs.lemmas.Int.{ints}
use Rattle.bundle_rules.specs.Bundles.{sections_of}
use Rattle.bundle_rules.specs.Menus.{wishes_of, worth}
use Rattle.bundle_rules.specs.Wishes.{AllRated}
use Rattle.course_catalog.specs.Sections.{section_names}
use Rattle.market_certificate.specs.Lines.{joined}
use Rattle.market_units.specs.Name.{name_bytes}
use Rattle.explain_desk.specs.Texts.{best_line, best_lines, lost_line, reason_line, tree_line}
use Rattle.explain_desk.specs.Views.{proved_of}
use Rattle.explain_desk.specs.declared.explanation.Proved as own
use Rattle.explain_desk.proofs.LinesBehind.{line_and_more, three_lines}
use Rattle.explain_desk.proofs.Offering.{all_below}
use Rattle.explain_desk.proofs.text.put_explained.Goals as goal

pub put_best-requires : goal.put_best-requires
put_best-requires c =
    all_below c.args.menu.now (length c.args.catalog.now.sections) (sections_of c.in-Some.best.bundle) c.requires.menu
    (subst (λ (o : Option own.Proved). IfSome o (λ proved. AllRated (wishes_of c.args.menu.now) (sections_of proved.bundle))) c.in-Some.is c.requires.best)

pub returns : goal.returns
returns c =
    let names = section_names c.args.catalog.now.sections in
    let menu = c.args.menu.now in
    let mine = sections_of c.args.bundle.now in
    let best = sections_of c.in-Some.best.bundle in
    let begun = c.put_reason.new.text.items in
    let has_best : to_z w64 (of_z w64 c.from-worth.result) ≡ worth menu best = omega (arith, ints, c.from-worth.ensures, c.utility.ensures) in
    let has_lost : to_z w64 (of_z w64 (to_z w64 (of_z w64 c.from.result) -ℤ to_z w64 (of_z w64 c.from-worth.result))) ≡ worth menu mine -ℤ worth menu best =
    omega (arith, ints, c.from.ensures, c.utility-2.ensures, c.from-worth.ensures, c.utility.ensures) in
    let three =
    three_lines begun c.put_best.new.text.items c.put_lost.new.text.items c.put_tree.new.text.items
    (best_line names best (worth menu best)) (lost_line (worth menu mine -ℤ worth menu best)) (tree_line c.in-Some.best.tree.items)
    (c.in_ok-put_best.ensures ∙ ap (λ (n : ℤ). (begun ++ best_line names best n) ++ 10 ∷ []) has_best)
    (c.in_ok-put_lost.ensures ∙ ap (λ (n : ℤ). (c.put_best.new.text.items ++ lost_line n) ++ 10 ∷ []) has_lost)
    (c.in_ok-put_tree.ensures ∙ ap (λ tree. (c.put_lost.new.text.items ++ tree_line tree) ++ 10 ∷ []) c.deref.ensures.value) in
    line_and_more c.new-text.result.items begun c.put_tree.new.text.items
    (reason_line names (name_bytes c.args.student) c.args.section.0 c.args.explained.now.reason)
    (best_lines names menu mine (option_map proved_of c.args.explained.now.best)) c.new-text.ensures.items c.in_ok-put_reason.ensures
    (three ∙ ap (λ (o : Option own.Proved). begun ++ joined (best_lines names menu mine (option_map proved_of o))) (sym c.in-Some.is))
