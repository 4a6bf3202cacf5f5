use Rattle.std.proofs.Common.{ℕ, ◌≡◌, ◌<◌, ◌≤◌, ◌∙◌, true, false, below_more, length, ap, sym, subst, arith}
use Rattle.std.proofs.lemmas.List.{length-map}
use Rattle.market_units.specs.Totals.{total}
use Rattle.market_units.specs.declared.units.SectionNo.{SectionNo}
use Rattle.bundle_rules.specs.Bundles.{sections_of}
use Rattle.course_catalog.specs.Sections.{section_at}
use Rattle.dropadd_desk.proofs.RuleLemmas.{all_below}
use Rattle.dropadd_hall.proofs.Openings.{allowed, clashing, none_clashing, some_clashing, too_dear, two_clash}
use Rattle.dropadd_hall.proofs.opening.may_hold.Goals as goal

pub sum_credits-requires-clause-within : goal.sum_credits-requires-clause-within
sum_credits-requires-clause-within c =
    all_below (length c.args.catalog.now.sections) c.sections-sections.result.now (sections_of c.args.held.now) c.sections-sections.ensures.value
    c.requires.within

pub returns-then-sum_credits-from-clause-may_not : goal.returns-then-sum_credits-from-clause-may_not
returns-then-sum_credits-from-clause-may_not c =
    let set = sections_of c.args.held.now in
    let sum : c.sum_credits.result ≡ total (λ s. (section_at c.args.catalog.now.sections s).credits) set =
    c.sum_credits.ensures ∙ ap (total (λ s. (section_at c.args.catalog.now.sections s).credits)) c.sections-sections.ensures.value in
    λ _. too_dear c.args.catalog.now c.args.roll.now c.args.student.0 set c.credits.result c.credits.ensures.credits
    (omega (arith, sum, c.from-2.ensures, c.if-sum_credits-from.true))

pub clashes_with_one-requires-clause-section : goal.clashes_with_one-requires-clause-section
clashes_with_one-requires-clause-section c =
    all_below (length c.args.catalog.now.sections) c.sections-sections.result.now (sections_of c.args.held.now) c.sections-sections.ensures.value
    c.requires.within c.looked.section-index (record { 0 = 0 }) c.looked-test.true

pub clashes_with_one-requires-clause-others : goal.clashes_with_one-requires-clause-others
clashes_with_one-requires-clause-others c =
    all_below (length c.args.catalog.now.sections) c.sections-sections.result.now (sections_of c.args.held.now) c.sections-sections.ensures.value
    c.requires.within

pub returns-then-clashes_with_one-clause-may_not : goal.returns-then-clashes_with_one-clause-may_not
returns-then-clashes_with_one-clause-may_not c = λ _.
    clashing c.args.catalog.now c.args.roll.now c.args.student.0 (sections_of c.args.held.now)
    (subst (λ set. two_clash c.args.catalog.now.sections set ≡ true) c.sections-sections.ensures.value
    (some_clashing c.args.catalog.now.sections c.sections-sections.result.now c.looked.section-index (record { 0 = 0 }) c.looked-test.true
    (sym c.clashes_with_one.ensures ∙ c.if-clashes_with_one.true)))

pub looked-preserved : goal.looked-preserved
looked-preserved c = below_more _ _ c.looked.invariant (sym c.clashes_with_one.ensures ∙ c.if-clashes_with_one.false)

pub returns-clause-may : goal.returns-clause-may
returns-clause-may c =
    let set = sections_of c.args.held.now in
    let items = c.sections-sections.result.now in
    let sum : c.sum_credits.result ≡ total (λ s. (section_at c.args.catalog.now.sections s).credits) set =
    c.sum_credits.ensures ∙ ap (total (λ s. (section_at c.args.catalog.now.sections s).credits)) c.sections-sections.ensures.value in
    let count : length set ≡ length items = ap length (sym c.sections-sections.ensures.value) ∙ length-map items (λ (section : SectionNo). section.0) in
    let k : ℕ = c.looked.section-index in
    let n : ℕ = length items in
    let past : n ≤ k = omega (arith, c.looked-test.false) in
    let none : two_clash c.args.catalog.now.sections set ≡ false =
    subst (λ set. two_clash c.args.catalog.now.sections set ≡ false) c.sections-sections.ensures.value
    (none_clashing c.args.catalog.now.sections items (record { 0 = 0 })
    (λ j low. c.looked.invariant j (let inside : j < n = low in let goal : j < k = omega arith in goal))) in
    λ is. allowed c.args.catalog.now c.args.roll.now c.args.student.0 set c.courses.result c.credits.result c.courses.ensures.courses c.credits.ensures.credits
    (omega (arith, count, c.from.ensures, c.if-sections-from.false)) (omega (arith, sum, c.from-2.ensures, c.if-sum_credits-from.false)) none
