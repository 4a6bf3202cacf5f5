use Rattle.std.proofs.Common.{◌≡◌, ◌≤◌, ◌<◌, ◌∙◌, ◌+ℤ◌, true, false, length, drop, map, ap, sym, subst, to_z, of_z, w32, arith, rules, ◌-◌}
use Rattle.std.specs.Prelude.{pos, All}
use Rattle.std.proofs.lemmas.Int.{ints}
use Rattle.std.proofs.lemmas.List.Elements.{All-nil}
use Rattle.bundle_bounds.specs.declared.prospects.Prospect.{Prospect}
use Rattle.bundle_bounds.specs.Views.{data_of}
use Rattle.bundle_bounds.specs.Opens.{above_zero, is_open, opens_from, prospect, prospects}
use Rattle.bundle_bounds.specs.Modest.{IsModest}
use Rattle.bundle_bounds.proofs.BelowLimit.{nothing_behind, rest_of_room}
use Rattle.bundle_bounds.proofs.Outlook.{open_same, opens_shut, put_front, all_cons, collected, prospect_is, course_low}
use Rattle.bundle_bounds.proofs.opens.+collect.Goals as goal

pub returns-then-place-len-clause-value : goal.returns-then-place-len-clause-value
returns-then-place-len-clause-value t c =
    let offer = data_of c.args.chosen.now.offer.now in
    let whole : length c.args.room.now ≡ 60 = search rules in
    let none : length c.args.chosen.now.offer.now.menu.now.places - c.args.place ≡ 0 = omega (arith, c.len.ensures.value) in
    nothing_behind c.args.room.now whole
    ∙ sym (ap (λ n. prospects offer c.args.chosen.now.places.now (opens_from offer c.args.chosen.now.places.now c.args.place n)) none)

pub returns-then-place-len-clause-modest : goal.returns-then-place-len-clause-modest
returns-then-place-len-clause-modest t c =
    let whole : length c.args.room.now ≡ 60 = search rules in
    subst (All IsModest) (sym (nothing_behind c.args.room.now whole)) (All-nil IsModest)

pub returns-then-place-len-clause-on_menu : goal.returns-then-place-len-clause-on_menu
returns-then-place-len-clause-on_menu t c =
    let whole : length c.args.room.now ≡ 60 = search rules in
    let P : Prospect → Type 0 = λ other. other.place < length c.args.chosen.now.offer.now.menu.now.places in
    subst (All P) (sym (nothing_behind c.args.room.now whole)) (All-nil P)

pub returns-then-not-is_open_at-clause-value : goal.returns-then-not-is_open_at-clause-value
returns-then-not-is_open_at-clause-value t c =
    let are = c.args.chosen.now.rests_are in
    let offer = data_of c.args.chosen.now.offer.now in
    let low : c.args.place < length c.args.chosen.now.offer.now.menu.now.places = omega (arith, c.len.ensures.value) in
    let no : c.is_open_at.result ≡ false = search rules in
    let shut : is_open offer c.args.chosen.now.places.now c.args.place ≡ false =
    sym
    (open_same offer c.args.chosen.now.places.now c.args.place c.args.chosen.now.rests.budget c.args.chosen.now.rests.credits
    c.args.chosen.now.rests.courses c.is_open_at.result
    c.is_open_at.ensures are.budget_is are.credits_is are.courses_is)
    ∙ no in
    c.collect-start.ensures.value
    ∙ ap (prospects offer c.args.chosen.now.places.now) (sym (opens_shut offer c.args.chosen.now.places.now c.args.place
    (length c.args.chosen.now.offer.now.menu.now.places) low shut))

pub returns-clause-value : goal.returns-clause-value
returns-clause-value t c =
    let are = c.args.chosen.now.rests_are in
    let menu = c.args.chosen.now.offer.now.menu.now in
    let offer = data_of c.args.chosen.now.offer.now in
    let places = c.args.chosen.now.places.now in
    let low : c.args.place < length c.args.chosen.now.offer.now.menu.now.places = omega (arith, c.len.ensures.value) in
    let yes : c.is_open_at.result ≡ true = search rules in
    let opened : is_open offer c.args.chosen.now.places.now c.args.place ≡ true =
    sym
    (open_same offer c.args.chosen.now.places.now c.args.place c.args.chosen.now.rests.budget c.args.chosen.now.rests.credits
    c.args.chosen.now.rests.courses c.is_open_at.result
    c.is_open_at.ensures are.budget_is are.credits_is are.courses_is)
    ∙ yes in
    let some : 1 ≤ c.collect-start.result = omega (arith, c.collect-start.ensures.space, c.len.ensures.menu.places.few) in
    let whole : length c.collect-start.new.room ≡ 60 = search rules in
    let within : c.collect-start.result ≤ length c.collect-start.new.room = omega (arith, c.collect-start.ensures.within) in
    let a = c.adjustments_with-adjustments.result in
    let back : to_z w32 (of_z w32 a) ≡ a = omega (arith, ints) in
    let worth : c.worth_of.result ≡ above_zero ((pos c.rated-rated.result.now.rating +ℤ a) +ℤ pos c.hopes-later_ones.result) =
    c.worth_of.ensures.value ∙ ap (λ x. above_zero ((pos c.rated-rated.result.now.rating +ℤ x) +ℤ pos c.hopes-later_ones.result)) back in
    let here : Prospect =
    record { place = c.args.place; course = c.course_of.result; worth = c.worth_of.result; price = c.price_of_place.result; credits = c.rated-rated.result.now.credits } in
    collected offer places c.args.place (length c.args.chosen.now.offer.now.menu.now.places) c.collect-start.result c.collect-start.new.room here
    low opened some within
    (c.collect-start.ensures.value)
    (prospect_is menu c.args.chosen.now.offer.now.prices.now c.args.chosen.now.offer.now.budget.0 c.args.chosen.now.offer.now.allowed.now places c.args.place _
    c.rated-rated.result.now c.course_of.result c.worth_of.result c.price_of_place.result a c.hopes-later_ones.result c.rated-rated.ensures.value
    c.course_of.ensures worth
    c.adjustments_with-adjustments.ensures.value c.hopes-later_ones.ensures.value c.price_of_place.ensures.value
    ∙ ap (λ l. prospect offer places c.args.place (map (λ (p : Prospect). p.place) l))
    (rest_of_room c.collect-start.new.room c.collect-start.result whole))

pub returns-clause-modest : goal.returns-clause-modest
returns-clause-modest t c =
    let low : c.args.place < length c.args.chosen.now.offer.now.menu.now.places = omega (arith, c.len.ensures.value) in
    let some : 1 ≤ c.collect-start.result = omega (arith, c.collect-start.ensures.space, c.len.ensures.menu.places.few, c.len.ensures.value) in
    let whole : length c.collect-start.new.room ≡ 60 = search rules in
    let within : c.collect-start.result ≤ length c.collect-start.new.room = omega (arith, c.collect-start.ensures.within) in
    subst (All IsModest) (sym (put_front c.collect-start.new.room c.collect-start.result _ some within))
    (all_cons IsModest _ (drop c.collect-start.result c.collect-start.new.room)
    (record {
      course_low =
          course_low c.args.chosen.now.offer.now.menu.now c.args.place c.rated-rated.result.now c.course_of.result c.len.ensures.menu low
          c.rated-rated.ensures.value c.course_of.ensures;
      worth_low = c.worth_of.ensures.high;
      price_low = c.price_of_place.ensures.high;
    })
    c.collect-start.ensures.modest)

pub returns-clause-on_menu : goal.returns-clause-on_menu
returns-clause-on_menu t c =
    let low : c.args.place < length c.args.chosen.now.offer.now.menu.now.places = omega (arith, c.len.ensures.value) in
    let some : 1 ≤ c.collect-start.result = omega (arith, c.collect-start.ensures.space, c.len.ensures.menu.places.few, c.len.ensures.value) in
    let whole : length c.collect-start.new.room ≡ 60 = search rules in
    let within : c.collect-start.result ≤ length c.collect-start.new.room = omega (arith, c.collect-start.ensures.within) in
    let P : Prospect → Type 0 = λ other. other.place < length c.args.chosen.now.offer.now.menu.now.places in
    subst (All P) (sym (put_front c.collect-start.new.room c.collect-start.result _ some within))
    (all_cons P _ (drop c.collect-start.result c.collect-start.new.room) low c.collect-start.ensures.on_menu)
