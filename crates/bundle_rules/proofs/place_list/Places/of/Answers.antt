use Rattle.std.proofs.Common.{◌≡◌, ◌<◌, ◌++◌, ◌∷◌, [], ◌∙◌, take, map, ap, sym, length, length-set, arith}
use Rattle.std.proofs.lemmas.List.{take_more, take_more_set, take_all, map-append, length-map}
use Rattle.bundle_rules.specs.Menus.{place_in}
use Rattle.bundle_rules.specs.Ordinals.{ordinals}
use Rattle.bundle_rules.specs.PlaceLists.{listed}
use Rattle.bundle_rules.proofs.place_list.Places.of.Goals as goal

pub loop-i-preserved : goal.loop-i-preserved
loop-i-preserved c =
    let few = c.sections-section-items.ensures.bundle.few in
    let same = ap length c.sections-section-items.ensures.value in
    let count = length-map c.sections-section-items.result.now (λ section. section.0) in
    let room = c.loop-i.invariant.room in
    let low : c.loop-i.i < length c.loop-i.places = omega (arith, c.loop-i-test.true) in
    record {
      room = length-set c.loop-i.places c.loop-i.i c.place.result ∙ room;
      placed = take_more_set c.loop-i.places c.loop-i.i c.place.result low
          ∙ ap (λ front. front ++ c.place.result ∷ []) c.loop-i.invariant.placed
          ∙ ap (λ place. map (place_in c.args.menu.now.places) (ordinals (take c.loop-i.i c.sections-section-items.result.now)) ++ place ∷ [])
          c.place.ensures.value
          ∙ sym (map-append (place_in c.args.menu.now.places) (ordinals (take c.loop-i.i c.sections-section-items.result.now)) _)
          ∙ ap (map (place_in c.args.menu.now.places)) (sym (map-append (λ section. section.0) (take c.loop-i.i c.sections-section-items.result.now) _))
          ∙ ap (λ front. map (place_in c.args.menu.now.places) (ordinals front))
          (sym (take_more c.sections-section-items.result.now c.loop-i.i _ c.loop-i-test.true));
    }

pub returns : goal.returns
unfolding listed
returns c =
    let end : c.loop-i.i ≡ length c.sections-section-items.result.now = omega (arith, c.loop-i-test.false, c.loop-i.auto.i-end) in
    let one : length c.sections.result.now ≡ c.loop-i.i =
    omega (
      arith,
      length-map c.sections.result.now (λ section. section.0),
      length-map c.sections-section-items.result.now (λ section. section.0),
      ap length c.sections.ensures.value,
      ap length c.sections-section-items.ensures.value,
    ) in
    ap (λ n. take n c.loop-i.places) one
    ∙ c.loop-i.invariant.placed
    ∙ ap (λ front. map (place_in c.args.menu.now.places) (ordinals front)) (take_all _ _ c.loop-i-test.false)
    ∙ ap (map (place_in c.args.menu.now.places)) c.sections-section-items.ensures.value
