use Rattle.std.proofs.Common.{◌≡◌, ◌∙◌, ℕ, Bool, not, get_or, ap, sym, to_z, of_z, w32}
use Rattle.std.specs.List.{find}
use Rattle.std.proofs.lemmas.Int.{to_z-of_z}
use Rattle.bundle_rules.specs.Bundles.{sections_of}
use Rattle.bundle_rules.specs.Sets.{without_section}
use Rattle.fairness_audit.specs.Envy.{is_more}
use Rattle.fairness_audit.proofs.Seeing.{first_at, none}
use Rattle.fairness_audit.proofs.sight.ended_by.Goals as goal
use Rattle.bundle_rules.proofs.PlaceLists.{none_more}

pub returns-then-not-is_more : goal.returns-then-not-is_more
returns-then-not-is_more c =
    let same : to_z w32 (of_z w32 c.args.own) ≡ c.args.own = to_z-of_z w32 c.args.own c.ranges.own in
    let items = c.sections-section-items.result.now in
    let test : ℕ → Bool = λ s. not (is_more c.args.menu.now c.args.own (without_section s (sections_of c.args.bundle.now))) in
    let told : c.is_more.result
    ≡ is_more c.args.menu.now c.args.own (without_section (get_or items c.loop-section.section-index none).0 (sections_of c.args.bundle.now)) =
    rw same at c.is_more.ensures ∙ ap (is_more c.args.menu.now c.args.own) c.but_for.ensures in
    sym
    (first_at test items c.loop-section.section-index none c.loop-section-test.true (rw same at c.loop-section.invariant)
    (ap not (sym told) ∙ ap not c.if-not-is_more.true))
    ∙ ap (find test) c.sections-section-items.ensures.value

pub loop-section-preserved : goal.loop-section-preserved
loop-section-preserved c =
    let same : to_z w32 (of_z w32 c.args.own) ≡ c.args.own = to_z-of_z w32 c.args.own c.ranges.own in
    let items = c.sections-section-items.result.now in
    let test : ℕ → Bool = λ s. not (is_more c.args.menu.now c.args.own (without_section s (sections_of c.args.bundle.now))) in
    let told : c.is_more.result
    ≡ is_more c.args.menu.now c.args.own (without_section (get_or items c.loop-section.section-index none).0 (sections_of c.args.bundle.now)) =
    rw same at c.is_more.ensures ∙ ap (is_more c.args.menu.now c.args.own) c.but_for.ensures in
    rw same
    (none_more test items c.loop-section.section-index none c.loop-section-test.true (rw same at c.loop-section.invariant)
    (ap not (sym told) ∙ ap not c.if-not-is_more.false))
