use Rattle.std.proofs.Common.{◌≡◌, ◌<◌, ◌≤◌, ◌+◌, ◌-◌, ◌+ℤ◌, true, false, [], length, length-set, drop, get_or, map, sym, ap, subst, ◌∙◌, to_z, of_z, w32, arith, rules}
use Rattle.std.specs.Prelude.{pos, All, filter}
use Rattle.std.proofs.Math.Seq.{drop-length}
use Rattle.std.proofs.lemmas.Int.{ints}
use Rattle.std.proofs.lemmas.List.Elements.{All-nil}
use Rattle.bundle_bounds.specs.declared.prospects.Prospect.{Prospect}
use Rattle.bundle_bounds.specs.Views.{data_of}
use Rattle.bundle_bounds.specs.Opens.{above_zero, budget_left, credits_left, courses_left, hopes, is_open, prospect, prospects}
use Rattle.bundle_bounds.specs.Modest.{IsModest}
use Rattle.bundle_bounds.proofs.Hopes.{hopes_fewer, worth_without}
use Rattle.bundle_bounds.proofs.BelowLimit.{nothing_behind, rest_of_room}
use Rattle.bundle_bounds.proofs.Outlook.{put_front, all_cons}
use Rattle.bundle_bounds.proofs.StayingOpen.{length-prospects, split_here, beside_is, open_beside, put_kept, shut_kept}
use Rattle.bundle_bounds.proofs.Steps.{no_prospect}
use Rattle.bundle_bounds.proofs.sifting.sift.Goals as goal

pub loop-index-init : goal.loop-index-init
loop-index-init c =
    let room : length c.args.room.now ≡ 60 = search rules in
    let none = nothing_behind c.args.room.now room in
    record {
      whole = room;
      within = omega arith;
      space = omega arith;
      value = λ before others chosen_is opens all_are.
          let offer = data_of c.args.wider.now.chosen.offer.now in
          let size : length c.args.all.now.list.now ≡ length others = ap length all_are ∙ length-prospects offer before others in
          let left : drop (length c.args.all.now.list.now) others ≡ [] = ap (λ n. drop n others) size ∙ drop-length others in
          none ∙ sym (ap (λ l. prospects offer c.args.wider.now.chosen.places.now (filter (is_open offer c.args.wider.now.chosen.places.now) l)) left);
      modest = subst (All IsModest) (sym none) (All-nil IsModest);
      on_menu =
          subst (All (λ (other : Prospect). other.place < length c.args.wider.now.chosen.offer.now.menu.now.places)) (sym none)
          (All-nil (λ (other : Prospect). other.place < length c.args.wider.now.chosen.offer.now.menu.now.places));
    }

pub loop-index-preserved-then-not-stays_open : goal.loop-index-preserved-then-not-stays_open
loop-index-preserved-then-not-stays_open c =
    let is = c.loop-index.invariant in
    let are = c.args.wider.now.chosen.rests_are in
    let rests = c.args.wider.now.chosen.rests in
    let low : c.loop-index.index - 1 < length c.args.all.now.list.now = omega arith in
    let next : c.loop-index.index ≡ (c.loop-index.index - 1) + 1 = omega arith in
    let space : 60 + c.loop-index.index ≤ c.loop-index.start + length c.args.all.now.list.now = is.space in
    record {
      whole = is.whole;
      within = is.within;
      space = omega arith;
      value = λ before others chosen_is opens all_are.
          let offer = data_of c.args.wider.now.chosen.offer.now in
          let places = c.args.wider.now.chosen.places.now in
          let one = get_or c.args.all.now.list.now (c.loop-index.index - 1) no_prospect in
          let later = drop ((c.loop-index.index - 1) + 1) others in
          let split = split_here offer before others c.args.all.now.list.now (c.loop-index.index - 1) low all_are opens in
          let so_far = is.value before others chosen_is opens all_are in
          let no : c.stays_open.result ≡ false = search rules in
          let shut : is_open offer places one.place ≡ false =
          ap (λ l. is_open offer l one.place) chosen_is
          ∙ sym
          (open_beside offer before c.args.wider.now.last one.place later one rests.budget rests.credits rests.courses c.stays_open.result split.opened
          split.one_is (are.budget_is ∙ ap (budget_left offer) chosen_is) (are.credits_is ∙ ap (credits_left offer) chosen_is)
          (are.courses_is ∙ ap (courses_left offer) chosen_is) c.stays_open.ensures)
          ∙ no in
          shut_kept offer places one.place later (drop c.loop-index.start c.loop-index.room) shut
          (so_far ∙ ap (λ n. prospects offer places (filter (is_open offer places) (drop n others))) next)
          ∙ ap (λ l. prospects offer places (filter (is_open offer places) l)) split.front;
      modest = is.modest;
      on_menu = is.on_menu;
    }

pub loop-index-preserved : goal.loop-index-preserved
loop-index-preserved c =
    let is = c.loop-index.invariant in
    let are = c.args.wider.now.chosen.rests_are in
    let rests = c.args.wider.now.chosen.rests in
    let list = c.args.all.now.list.now in
    let room = c.loop-index.room in
    let start = c.loop-index.start in
    let low : c.loop-index.index - 1 < length c.args.all.now.list.now = omega arith in
    let next : c.loop-index.index ≡ (c.loop-index.index - 1) + 1 = omega arith in
    let space : 60 + c.loop-index.index ≤ c.loop-index.start + length c.args.all.now.list.now = is.space in
    let few : length c.args.all.now.list.now ≤ 60 = c.args.all.now.few in
    let whole : length c.loop-index.room ≡ 60 = is.whole in
    let below : c.loop-index.start ≤ 60 = is.within in
    let some : 1 ≤ c.loop-index.start = omega arith in
    let within : c.loop-index.start ≤ length c.loop-index.room = omega arith in
    let one = get_or c.args.all.now.list.now (c.loop-index.index - 1) no_prospect in
    let modest = c.args.all.now.modest (c.loop-index.index - 1) no_prospect low in
    let a = c.adjustments_with-adjustments.result in
    let back : to_z w32 (of_z w32 a) ≡ a = omega (arith, ints) in
    let worth : c.worth_of.result ≡ above_zero ((pos c.rated.result.now.rating +ℤ a) +ℤ pos c.hopes_left-later_ones.result) =
    c.worth_of.ensures.value ∙ ap (λ x. above_zero ((pos c.rated.result.now.rating +ℤ x) +ℤ pos c.hopes_left-later_ones.result)) back in
    let here : Prospect = record { place = one.place; course = one.course; worth = c.worth_of.result; price = one.price; credits = one.credits } in
    let P : Prospect → Type 0 = λ other. other.place < length c.args.wider.now.chosen.offer.now.menu.now.places in
    record {
      whole = length-set room (start - 1) here ∙ whole;
      within = omega arith;
      space = omega arith;
      value = λ before others chosen_is opens all_are.
          let offer = data_of c.args.wider.now.chosen.offer.now in
          let places = c.args.wider.now.chosen.places.now in
          let later = drop ((c.loop-index.index - 1) + 1) others in
          let split = split_here offer before others list (c.loop-index.index - 1) low all_are opens in
          let so_far = is.value before others chosen_is opens all_are in
          let yes : c.stays_open.result ≡ true = search rules in
          let opened : is_open offer places one.place ≡ true =
          ap (λ l. is_open offer l one.place) chosen_is
          ∙ sym
          (open_beside offer before c.args.wider.now.last one.place later one rests.budget rests.credits rests.courses c.stays_open.result split.opened
          split.one_is (are.budget_is ∙ ap (budget_left offer) chosen_is) (are.credits_is ∙ ap (credits_left offer) chosen_is)
          (are.courses_is ∙ ap (courses_left offer) chosen_is) c.stays_open.ensures)
          ∙ yes in
          let kept_is = so_far ∙ ap (λ n. prospects offer places (filter (is_open offer places) (drop n others))) next in
          let fewer = hopes_fewer offer places one.place (is_open offer places) later _ (rest_of_room room start whole ∙ kept_is) in
          let hopes_are =
          c.hopes_left-later_ones.ensures.value (hopes offer one.place later)
          (worth_without offer before places c.args.wider.now.last one.place later one c.rated.result.now a c.adjustment.result _ split.one_is
          c.rated.ensures.value chosen_is c.adjustments_with-adjustments.ensures.value c.adjustment.ensures.value (omega (arith, ints)))
          fewer in
          put_kept offer places one.place later room start here some within opened
          kept_is
          (beside_is c.args.wider.now.chosen.offer.now.menu.now c.args.wider.now.chosen.offer.now.prices.now c.args.wider.now.chosen.offer.now.budget.0
          c.args.wider.now.chosen.offer.now.allowed.now before places one.place later _ one c.rated.result.now
          c.worth_of.result a c.hopes_left-later_ones.result split.one_is c.rated.ensures.value worth c.adjustments_with-adjustments.ensures.value
          hopes_are
          ∙ ap (λ l. prospect offer places one.place (map (λ (p : Prospect). p.place) l)) (rest_of_room room start whole))
          ∙ ap (λ l. prospects offer places (filter (is_open offer places) l)) split.front;
      modest =
          subst (All IsModest) (sym (put_front room start here some within))
          (all_cons IsModest here (drop start room)
          (record { course_low = modest.course_low; worth_low = c.worth_of.ensures.high; price_low = modest.price_low }) is.modest);
      on_menu =
          subst (All P) (sym (put_front room start here some within))
          (all_cons P here (drop start room) (c.requires (c.loop-index.index - 1) no_prospect low) is.on_menu);
    }

pub returns-clause-value : goal.returns-clause-value
returns-clause-value c = λ before others chosen_is opens all_are.
    let offer = data_of c.args.wider.now.chosen.offer.now in
    let none : c.loop-index.index ≡ 0 = omega arith in
    c.loop-index.invariant.value before others chosen_is opens all_are
    ∙ ap (λ n. prospects offer c.args.wider.now.chosen.places.now (filter (is_open offer c.args.wider.now.chosen.places.now) (drop n others))) none
