use Rattle.std.proofs.Common.{ℕ, List, ◌<◌, ◌++◌, ◌∷◌, [], length, map, eqb, ap, sym, subst, ◌∙◌, rules, tests}
use Rattle.std.specs.Prelude.{All}
use Rattle.std.specs.List.{join_with_byte}
use Rattle.std.proofs.lemmas.List.{map-append}
use Rattle.std.proofs.lemmas.List.Elements.{All-push}
use Rattle.std.proofs.lemmas.List.Splits.{join_with_byte-slice_split}
use Rattle.std.proofs.lemmas.Iterator.Splits.{YieldsList-from_slice_split}
use Rattle.plain_facts.proofs.Lists.{item_of_turn}
use Rattle.bundle_rules.specs.Bundles.{sections_of}
use Rattle.bundle_rules.proofs.Bundled.{sections_of-IsBundle}
use Rattle.market_certificate.specs.Tables.{name_at}
use Rattle.market_certificate.specs.Views.{seen}
use Rattle.market_certificate.proofs.Bundles.{all_parts, goes_on_fits, goes_on_with, parts_so_far}
use Rattle.market_certificate.proofs.reading.values.bundle_of_names.Goals as goal

pub returns-in_err-section-clause-none : goal.returns-in_err-section-clause-none
returns-in_err-section-clause-none c =
    rw c.from_residual.ensures (λ bundle is e.
    let t =
    item_of_turn c.names.yielded _ c.names.yielded_by _ _ _ c.in-Some.is c.next.ensures.steps
    (YieldsList-from_slice_split _ (λ b. eqb b 44) c.args.names.now (cc) (cc) (cc) (λ x b q k. search (rules, tests))) in
    let f =
    parts_so_far c.names.yielded _ c.names.yielded_by
    (YieldsList-from_slice_split _ (λ b. eqb b 44) c.args.names.now (cc) (cc) (cc) (λ x b q k. search (rules, tests))) in
    let goes =
    goes_on_with (λ x. x.now) (seen c.args.tables.now).sections c.args.names.now c.names.yielded (sections_of c.names.bundle) c.in-Some.name.now bundle
    c.args.tables.now.are.sections c.requires c.names.invariant.3 c.names.invariant.2 f t.0 t.1 is e in
    c.in_err-section.ensures.none goes.section goes.inside goes.is_named)

pub returns-in_err-bundle-clause-none : goal.returns-in_err-bundle-clause-none
returns-in_err-bundle-clause-none c =
    rw c.from_residual-in_err-bundle.ensures (λ bundle is e.
    let t =
    item_of_turn c.names.yielded _ c.names.yielded_by _ _ _ c.in-Some.is c.next.ensures.steps
    (YieldsList-from_slice_split _ (λ b. eqb b 44) c.args.names.now (cc) (cc) (cc) (λ x b q k. search (rules, tests))) in
    let f =
    parts_so_far c.names.yielded _ c.names.yielded_by
    (YieldsList-from_slice_split _ (λ b. eqb b 44) c.args.names.now (cc) (cc) (cc) (λ x b q k. search (rules, tests))) in
    let goes =
    goes_on_with (λ x. x.now) (seen c.args.tables.now).sections c.args.names.now c.names.yielded (sections_of c.names.bundle) c.in-Some.name.now bundle
    c.args.tables.now.are.sections c.requires c.names.invariant.3 c.names.invariant.2 f t.0 t.1 is e in
    c.in_err-bundle.ensures.none (goes_on_fits (seen c.args.tables.now).sections (sections_of c.names.bundle) c.in-Some.name.now bundle c.in_ok-section.section.0 c.args.tables.now.are.sections goes is c.in_ok-section.ensures.within c.in_ok-section.ensures.name))

pub names-preserved : goal.names-preserved
names-preserved c =
    let sections = (seen c.args.tables.now).sections in
    let more = c.in_ok-bundle.ensures.more in (
      search rules,
      tt,
      map-append (λ x. x.now) c.names.yielded (c.in-Some.name ∷ [])
          ∙ ap (λ (l : List (List ℕ)). l ++ c.in-Some.name.now ∷ []) c.names.invariant.2
          ∙ ap (λ (n : List ℕ). map (name_at sections) (sections_of c.names.bundle) ++ n ∷ []) (sym c.in_ok-section.ensures.name)
          ∙ sym (ap (map (name_at sections)) more ∙ map-append (name_at sections) (sections_of c.names.bundle) (c.in_ok-section.section.0 ∷ [])),
      subst (All (λ section. section < length sections)) (sym more)
          (All-push (λ section. section < length sections) (sections_of c.names.bundle) c.in_ok-section.section.0 c.names.invariant.3
          c.in_ok-section.ensures.within),
    )

pub returns-clause-bundle : goal.returns-clause-bundle
returns-clause-bundle c = record { is_bundle = sections_of-IsBundle c.names.bundle; of_catalog = c.names.invariant.3 }

pub returns-clause-text : goal.returns-clause-text
returns-clause-text c =
    let t =
    all_parts c.names.yielded _ c.names.yielded_by _ _ c.in-None.is c.next.ensures.steps
    (YieldsList-from_slice_split _ (λ b. eqb b 44) c.args.names.now (cc) (cc) (cc) (λ x b q k. search (rules, tests))) in
    sym (ap (join_with_byte 44) (sym c.names.invariant.2 ∙ t) ∙ join_with_byte-slice_split 44 c.args.names.now)
