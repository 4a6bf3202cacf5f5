use Rattle.std.proofs.Common.{◌≡◌, ◌≤◌, ◌<◌, ◌+◌, ◌-◌, ◌*◌, ℕ, length, take, drop, sym, ap, subst, ◌∙◌, get_or, min, rules, arith, to_z, of_z, w32, w64}
use Rattle.std.specs.Prelude.{ℤ, pos, neg_ℤ, ◌+ℤ◌, ◌≤ℤ◌, All}
use Rattle.std.proofs.lemmas.Int.{ints}
use Rattle.std.proofs.lemmas.Bool.{false≢true}
use Rattle.std.proofs.lemmas.List.{length-take}
use Rattle.bundle_rules.specs.Ahead.{is_ahead}
use Rattle.bundle_rules.specs.Bundles.{sections_of}
use Rattle.bundle_rules.specs.Menus.{credits_at}
use Rattle.bundle_bounds.specs.declared.prospects.Prospect.{Prospect}
use Rattle.bundle_bounds.specs.Ahead.{limit_of}
use Rattle.bundle_bounds.specs.Courses.{by_course}
use Rattle.bundle_bounds.specs.Modest.{IsModest}
use Rattle.bundle_bounds.specs.Offers.{places_of, price_at}
use Rattle.bundle_bounds.specs.Opens.{open_places, prospect}
use Rattle.bundle_bounds.specs.Views.{data_of}
use Rattle.bundle_bounds.proofs.BelowLimit.{few_of_room, rest_of_room}
use Rattle.bundle_bounds.proofs.Steps.{no_prospect}
use Rattle.bundle_bounds.proofs.StayingOpen.{opens_all}
use Rattle.bundle_bounds.proofs.StemSteps.{kept_first, kept_some, kept_later, first_here, no_tangents, tail_all}
use Rattle.bundle_bounds.proofs.StemTaken.{before_on_menu, few_next, next_on_menu, chosen_next, chosen_taken, kept_taken, places_next, rests_taken}
use Rattle.bundle_bounds.proofs.stems.Stem.take.Goals as goal

pub adjustments_with-requires-clause-on_menu : goal.adjustments_with-requires-clause-on_menu
adjustments_with-requires-clause-on_menu c =
    before_on_menu _ c.len.ensures.menu c.args.node.now.place c.requires.left _ _ _ _ _ _ _ _ c.requires.stem.has_chosen c.requires.node

pub bounds-self-self : goal.bounds-self-self
bounds-self-self c = kept_some _ _ _ _ _ c.requires.stem c.requires.left c.requires.open

pub slice_bounds-later-count : goal.slice_bounds-later-count
slice_bounds-later-count c = let some : c.args.self.now.start < 60 = kept_some _ _ _ _ _ c.requires.stem c.requires.left c.requires.open in omega arith

pub slice_bounds-later-start : goal.slice_bounds-later-start
slice_bounds-later-start c = let some : c.args.self.now.start < 60 = kept_some _ _ _ _ _ c.requires.stem c.requires.left c.requires.open in omega arith

pub invariant_of-chosen : goal.invariant_of-chosen
invariant_of-chosen c =
    let offer = data_of c.args.offer.now in
    let champion = sections_of c.args.champion.now in
    let chosen = sections_of c.args.node.now.chosen in
    let k = c.args.node.now.place in
    let stem = c.args.self.now in
    let is = c.requires.stem in
    let first_is : get_or c.args.self.now.room c.args.self.now.start no_prospect
    ≡ prospect offer (places_of c.args.offer.now.menu.now chosen) k (open_places offer (k + 1) (places_of c.args.offer.now.menu.now chosen)) =
    first_here c.args.self.now.room c.args.self.now.start _ _ (kept_first offer champion k chosen stem is c.requires.left c.requires.open) in
    let price_is : (get_or c.args.self.now.room c.args.self.now.start no_prospect).price ≡ price_at offer k = ap (λ p. p.price) first_is in
    let credits_is : (get_or c.args.self.now.room c.args.self.now.start no_prospect).credits ≡ credits_at c.args.offer.now.menu.now.places k =
    ap (λ p. p.credits) first_is in
    record {
      on_menu = next_on_menu _ c.len.ensures.menu c.args.node.now.place c.requires.left _ _ _ _ _ _ _ _ c.requires.stem.has_chosen c.requires.node c.requires.open;
      few = few_next _ c.len.ensures.menu c.args.node.now.place c.requires.left _ _ _ _ _ _ _ _ c.requires.stem.has_chosen;
      rests_are =
          rests_taken offer c.len.ensures.menu k c.requires.left champion chosen stem.champion stem.most stem.chosen stem.count stem.utility stem.rests
          is.has_chosen c.requires.open c.rests_after-rests.result (get_or stem.room stem.start no_prospect).price
          (get_or stem.room stem.start no_prospect).credits price_is credits_is c.rests_after-rests.ensures.budget c.rests_after-rests.ensures.credits
          c.rests_after-rests.ensures.courses;
    }

pub invariant_of-later : goal.invariant_of-later
invariant_of-later c =
    record {
      modest =
          subst (All IsModest) (sym (rest_of_room c.args.self.now.room (c.args.self.now.start + 1) c.requires.stem.keeps.whole))
          (tail_all IsModest c.args.self.now.room c.args.self.now.start c.requires.stem.keeps.modest);
      few = few_of_room c.args.self.now.room (c.args.self.now.start + 1) c.requires.stem.keeps.whole;
    }

pub sift-start-requires : goal.sift-start-requires
sift-start-requires c =
    subst (All (λ (p : Prospect). p.place < length c.args.offer.now.menu.now.places))
    (sym (rest_of_room c.args.self.now.room (c.args.self.now.start + 1) c.requires.stem.keeps.whole))
    (tail_all (λ (p : Prospect). p.place < length c.args.offer.now.menu.now.places) c.args.self.now.room c.args.self.now.start c.requires.stem.keeps.on_menu)

pub invariant_of-all : goal.invariant_of-all
invariant_of-all c =
    let size : length c.sift-start.new.room ≡ 60 = search rules in
    record {
      modest = subst (All IsModest) (sym (rest_of_room c.sift-start.new.room c.sift-start.result size)) c.sift-start.ensures.modest;
      few = few_of_room c.sift-start.new.room c.sift-start.result size;
    }

pub overflow_add-below-2 : goal.overflow_add-below-2
overflow_add-below-2 c =
    let low = c.requires.stem.has_chosen.low in
    let high = c.requires.stem.has_chosen.high in
    let few = c.requires.stem.has_chosen.few in
    omega (arith, ints)

pub returns : goal.returns
returns c =
    let offer = data_of c.args.offer.now in
    let champion = sections_of c.args.champion.now in
    let chosen = sections_of c.args.node.now.chosen in
    let k = c.args.node.now.place in
    let stem = c.args.self.now in
    let is = c.requires.stem in
    let size : length c.sift-start.new.room ≡ 60 = search rules in
    let first_is : get_or c.args.self.now.room c.args.self.now.start no_prospect
    ≡ prospect offer (places_of c.args.offer.now.menu.now chosen) k (open_places offer (k + 1) (places_of c.args.offer.now.menu.now chosen)) =
    first_here c.args.self.now.room c.args.self.now.start _ _ (kept_first offer champion k chosen stem is c.requires.left c.requires.open) in
    let price_is : (get_or c.args.self.now.room c.args.self.now.start no_prospect).price ≡ price_at offer k = ap (λ p. p.price) first_is in
    let credits_is : (get_or c.args.self.now.room c.args.self.now.start no_prospect).credits ≡ credits_at c.args.offer.now.menu.now.places k =
    ap (λ p. p.credits) first_is in
    let m : to_z w32 (of_z w32 c.args.self.now.most) ≡ c.args.self.now.most = omega (arith, ints) in
    let l : to_z w64 (of_z w64 c.limit_after-limit.result) ≡ c.limit_after-limit.result = omega (arith, ints) in
    let next =
    chosen_next offer c.len.ensures.menu k c.requires.left champion chosen c.args.self.now.champion c.args.self.now.most c.args.self.now.chosen
    c.args.self.now.count c.args.self.now.utility c.args.self.now.rests is.has_chosen c.requires.open in
    let places =
    places_next offer c.len.ensures.menu k c.requires.left champion chosen c.args.self.now.champion c.args.self.now.most c.args.self.now.chosen
    c.args.self.now.count c.args.self.now.utility c.args.self.now.rests is.has_chosen in
    let champions = c.as_slice-champions.ensures.value ∙ is.has_chosen.champion_is in
    let size_before : length (take c.args.self.now.count c.args.self.now.chosen) ≡ min c.args.self.now.count (length c.args.self.now.chosen) =
    length-take c.args.self.now.count c.args.self.now.chosen in
    let few = is.has_chosen.few in
    let n : ℕ = length (take c.args.self.now.count c.args.self.now.chosen) in
    let n_few : n ≤ 8 = omega arith in
    let a : ℤ = c.adjustments_with.result in
    let a_low : neg_ℤ (pos (200 * n)) ≤ℤ a = c.adjustments_with.ensures.low in
    let a_high : a ≤ℤ pos (200 * n) = c.adjustments_with.ensures.high in
    let low' : neg_ℤ (pos 1600) ≤ℤ a = omega (arith, ints) in
    let high' : a ≤ℤ pos 1600 = omega (arith, ints) in
    let so_low = is.has_chosen.low in
    let so_high = is.has_chosen.high in
    let rating = c.rated-rated.ensures.range.rating_high in
    let from_rating = c.from.ensures in
    let next_is : to_z w32
    (of_z w32
    (to_z w32 (of_z w32 c.args.self.now.utility)
    +ℤ to_z w32 (of_z w32 (to_z w32 (of_z w32 c.from.result) +ℤ to_z w32 (of_z w32 c.adjustments_with.result)))))
    ≡ c.args.self.now.utility +ℤ (pos c.rated-rated.result.now.rating +ℤ a) =
    omega (arith, ints, from_rating) in
    record {
      has_chosen = rw m (chosen_taken offer c.len.ensures.menu k c.requires.left champion chosen c.args.self.now.champion c.args.self.now.most c.args.self.now.chosen c.args.self.now.count c.args.self.now.utility c.args.self.now.rests is.has_chosen c.requires.open c.rated-rated.result.now a (to_z w32 (of_z w32 (to_z w32 (of_z w32 c.args.self.now.utility) +ℤ to_z w32 (of_z w32 (to_z w32 (of_z w32 c.from.result) +ℤ to_z w32 (of_z w32 c.adjustments_with.result)))))) c.rests_after-rests.result (get_or c.args.self.now.room c.args.self.now.start no_prospect).price (get_or c.args.self.now.room c.args.self.now.start no_prospect).credits
          c.rated-rated.ensures.value rating c.adjustments_with.ensures.value low' high' next_is price_is credits_is c.rests_after-rests.ensures.budget c.rests_after-rests.ensures.credits c.rests_after-rests.ensures.courses);
      limit_is =
          l ∙ c.limit_after-limit.ensures
          ∙ (λ i. limit_of (to_z w32 (of_z w32 c.args.self.now.most)) (is_ahead (c.args.node.now.place + 1) (champions i) (next i)))
          ∙ ap
          (λ cs. limit_of (to_z w32 (of_z w32 c.args.self.now.most))
          (is_ahead (c.args.node.now.place + 1) (places_of c.args.offer.now.menu.now (sections_of c.args.champion.now)) cs))
          (sym places);
      keeps = record {
        whole = size;
        within = c.sift-start.ensures.within;
        kept_is =
            kept_taken offer c.len.ensures.menu k c.requires.left champion chosen c.args.self.now.champion c.args.self.now.most c.args.self.now.chosen
            c.args.self.now.count c.args.self.now.utility c.args.self.now.rests is.has_chosen c.requires.open (drop c.sift-start.result c.sift-start.new.room)
            (c.sift-start.ensures.value (places_of c.args.offer.now.menu.now chosen) (open_places offer (k + 1) (places_of c.args.offer.now.menu.now chosen)) next
            (opens_all offer (places_of c.args.offer.now.menu.now chosen) (k + 1) (length c.args.offer.now.menu.now.places - (k + 1)))
            (rest_of_room c.args.self.now.room (c.args.self.now.start + 1) c.requires.stem.keeps.whole ∙ kept_later offer champion k chosen stem is c.requires.left c.requires.open));
        modest = c.sift-start.ensures.modest;
        on_menu = c.sift-start.ensures.on_menu;
        plain_is =
            c.plain_sum-plain.ensures.value
            ∙ ap (by_course (λ p. 1000 * p.worth)) (rest_of_room c.sift-start.new.room c.sift-start.result size);
        small = c.plain_sum-plain.ensures.high;
        tangents_are = no_tangents _ _ _ _ c.none-below.result c.none-below.ensures.money c.none-below.ensures.credits c.none-below.ensures.courses;
      };
      quiet = λ yes. absurd (false≢true yes);
    }
