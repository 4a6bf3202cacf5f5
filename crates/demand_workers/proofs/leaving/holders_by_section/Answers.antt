use Rattle.std.proofs.Common.{rules, ◌≡◌, ◌<◌, ◌≤◌, ◌+◌, ◌∙◌, ℕ, true, List, [], ◌∷◌, All, Vec, Global, length, take}
use Rattle.std.proofs.Common.{slice_index_or, ap, refl, sym, subst, arith}
use Rattle.std.specs.Arc.{arc_value}
use Rattle.std.proofs.Math.Seq.{take-length}
use Rattle.std.proofs.lemmas.List.{length_push, length-set}
use Rattle.std.proofs.lemmas.List.Elements.{All-append, All-cons, All-nil}
use Rattle.bundle_rules.specs.declared.bundle.Bundle.{Bundle}
use Rattle.bundle_rules.specs.Bundles.{sections_of}
use Rattle.bundle_rules.specs.Ordinals.{ordinals}
use Rattle.bundle_rules.specs.Sets.{IsAscending}
use Rattle.market_units.specs.declared.units.SectionNo.{SectionNo}
use Rattle.market_units.specs.Members.{has}
use Rattle.demand_api.proofs.Parts.{menus_few, students_length}
use Rattle.demand_api.proofs.Takers.{demand_within, listed_in}
use Rattle.demand_workers.specs.declared.remembered.Remembered.{Remembered}
use Rattle.demand_workers.specs.Views.{crowd_of, price_before}
use Rattle.demand_workers.proofs.HoldersLeave.{AreMet, times, met_all, met_left, met_listed, none_met, keeps_now}
use Rattle.demand_workers.proofs.leaving.holders_by_section.Goals as goal

-- a section of a remembered bundle
low_section : (remembered : Remembered) (place k : ℕ) (bundle : Bundle) (sections : List SectionNo) (d : SectionNo) → place < length remembered.bundles.items
    → bundle ≡ slice_index_or remembered.bundles.items place bundle → ordinals sections ≡ sections_of bundle → k < length sections
    → (slice_index_or sections k d).0 < (arc_value remembered.crowd).sections
low_section remembered place k bundle sections d low is told within =
    demand_within (crowd_of remembered) (price_before remembered) place (slice_index_or sections k d).0
    (subst (λ (b : List ℕ). has b (slice_index_or sections k d).0 ≡ true) (told ∙ ap sections_of is ∙ remembered.taken place bundle low)
    (listed_in sections k d within))

pub overflow_cast-question : goal.overflow_cast-question
overflow_cast-question c =
    let few : length (arc_value c.args.remembered.now.crowd).menus.items ≤ 2000 = menus_few (arc_value c.args.remembered.now.crowd) in
    let each : length c.args.remembered.now.bundles.items ≡ length (arc_value c.args.remembered.now.crowd).menus.items = c.args.remembered.now.each in
    let within : c.loop-place.place < length c.args.remembered.now.bundles.items = search rules in
    omega arith

pub sections-init : goal.sections-init
sections-init c = record {
  len = ap length c.new-lists.ensures.items;
  none = subst (All (λ (list : Vec (ℕ × ℕ) Global). list.items ≡ [])) (sym c.new-lists.ensures.items) (All-nil _);
}

pub sections-preserved : goal.sections-preserved
sections-preserved c =
    let P : Vec (ℕ × ℕ) Global → Type 0 = λ list. list.items ≡ [] in
    record {
      len = ap length c.in_ok-push.ensures.items ∙ length_push _ _ ∙ ap (λ n. n + 1) c.sections.invariant.len;
      none =
          subst (All P) (sym c.in_ok-push.ensures.items)
          (All-append P c.sections.lists.items (c.new.result ∷ []) c.sections.invariant.none (All-cons P c.new.result [] c.new.ensures.items (All-nil P)));
    }

pub loop-place-init : goal.loop-place-init
loop-place-init c =
    let past : length c.args.remembered.now.prices.items ≤ c.sections.counter = search rules in
    let below : c.sections.counter ≤ length c.args.remembered.now.prices.items = search rules in
    let size : length c.args.remembered.now.prices.items ≡ (arc_value c.args.remembered.now.crowd).sections = c.args.remembered.now.priced.same in
    let len : length c.sections.lists.items ≡ (arc_value c.args.remembered.now.crowd).sections = c.sections.invariant.len ∙ (omega arith) in
    record {
      len = len;
      met = λ s d low. none_met _ _ _ _ (c.sections.invariant.none s d low);
    }

pub holder_of-holder-requires-clause-section : goal.holder_of-holder-requires-clause-section
holder_of-holder-requires-clause-section c =
    low_section c.args.remembered.now c.loop-place.place c.loop-index.index c.index-bundle.result.now c.sections-sections.result.now _ (search rules)
    c.index-bundle.ensures c.sections-sections.ensures.value (search rules)

pub holder_of-holder-requires-clause-holds : goal.holder_of-holder-requires-clause-holds
holder_of-holder-requires-clause-holds c =
    subst (λ (b : List ℕ). has b (slice_index_or c.sections-sections.result.now c.loop-index.index (record { 0 = 0 })).0 ≡ true)
    c.sections-sections.ensures.value (listed_in c.sections-sections.result.now c.loop-index.index (record { 0 = 0 }) (search rules))

pub index_mut-list-requires : goal.index_mut-list-requires
index_mut-list-requires c =
    let low : (slice_index_or c.sections-sections.result.now c.loop-index.index (record { 0 = 0 })).0 < (arc_value c.args.remembered.now.crowd).sections =
    low_section c.args.remembered.now c.loop-place.place c.loop-index.index c.index-bundle.result.now c.sections-sections.result.now (record { 0 = 0 })
    (search rules) c.index-bundle.ensures c.sections-sections.ensures.value (search rules) in
    let len = c.loop-index.invariant.len in
    let to : c.from.result ≡ (slice_index_or c.sections-sections.result.now c.loop-index.index (record { 0 = 0 })).0 = c.from.ensures in
    let within : c.from.result < length c.loop-index.lists.items = omega arith in
    search rules

pub loop-index-preserved : goal.loop-index-preserved
loop-index-preserved c =
    let remembered = c.args.remembered.now in
    let t : SectionNo = slice_index_or c.sections-sections.result.now c.loop-index.index (record { 0 = 0 }) in
    let place : c.loop-place.place < length c.args.remembered.now.bundles.items = search rules in
    let low : t.0 < (arc_value c.args.remembered.now.crowd).sections =
    low_section remembered c.loop-place.place c.loop-index.index c.index-bundle.result.now c.sections-sections.result.now (record { 0 = 0 })
    place c.index-bundle.ensures c.sections-sections.ensures.value (search rules) in
    let len : length c.loop-index.lists.items ≡ (arc_value c.args.remembered.now.crowd).sections = c.loop-index.invariant.len in
    let to : c.from.result ≡ t.0 = c.from.ensures in
    let each : length c.args.remembered.now.bundles.items ≡ length (arc_value c.args.remembered.now.crowd).menus.items = remembered.each in
    let students = students_length (arc_value c.args.remembered.now.crowd) in
    let keeps =
    keeps_now (crowd_of remembered) remembered.prices.items c.deref.result.now t.0 c.loop-place.place
    c.holder_of-holder.result c.deref.ensures.value c.holder_of-holder.ensures.student c.holder_of-holder.ensures.room
    c.holder_of-holder.ensures.later c.holder_of-holder.ensures.capped c.holder_of-holder.ensures.still in
    record {
      len = length-set c.loop-index.lists.items _ _ ∙ len;
      met = λ s e within.
          met_listed (crowd_of remembered) (price_before remembered) s c.loop-place.place c.loop-index.index c.sections-sections.result.now t (record { 0 = 0 })
          (search rules) refl c.loop-index.lists.items c.from.result c.index_mut-list.result.now c.push-in-loop-index.new.self e c.holder_of-holder.result to
          c.index_mut-list.ensures.value (omega arith) c.in_ok-push-2.ensures.items c.holder_of-holder.ensures.student (omega arith) keeps
          (λ d. c.loop-index.invariant.met s d (subst (λ n. s < n) (length-set c.loop-index.lists.items _ _) within));
    }

pub loop-place-preserved : goal.loop-place-preserved
loop-place-preserved c =
    let remembered = c.args.remembered.now in
    let past : length c.sections-sections.result.now ≤ c.loop-index.index = search rules in
    let below : c.loop-index.index ≤ length c.sections-sections.result.now = search rules in
    let end : c.loop-index.index ≡ length c.sections-sections.result.now = omega arith in
    let all : take c.loop-index.index c.sections-sections.result.now ≡ c.sections-sections.result.now =
    ap (λ n. take n c.sections-sections.result.now) end ∙ take-length c.sections-sections.result.now in
    record {
      len = c.loop-index.invariant.len;
      met = λ s e low.
          met_all (crowd_of remembered) (price_before remembered) s c.loop-place.place c.sections-sections.result.now _
          (subst IsAscending (sym c.sections-sections.ensures.value) c.sections-sections.ensures.bundle.ascending)
          (c.sections-sections.ensures.value ∙ ap sections_of c.index-bundle.ensures ∙ remembered.taken c.loop-place.place c.index-bundle.result.now (search rules))
          (subst
          (λ (ss : List SectionNo). AreMet (crowd_of remembered) (price_before remembered) s c.loop-place.place (times s ss)
          (slice_index_or c.loop-index.lists.items s e).items)
          all (c.loop-index.invariant.met s e low));
    }

pub returns-clause-left : goal.returns-clause-left
returns-clause-left c =
    let remembered = c.args.remembered.now in
    let past : length remembered.bundles.items ≤ c.loop-place.place = search rules in
    let below : c.loop-place.place ≤ length remembered.bundles.items = search rules in
    let end : c.loop-place.place ≡ length remembered.bundles.items = omega arith in
    λ s e low. met_left (crowd_of remembered) (price_before remembered) s c.loop-place.place _
    (end ∙ remembered.each ∙ sym (students_length (arc_value remembered.crowd))) (c.loop-place.invariant.met s e low)
