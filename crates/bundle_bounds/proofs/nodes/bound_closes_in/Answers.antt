use Rattle.std.proofs.Common.{◌≡◌, ℕ, ◌<◌, ◌∙◌, ap, sym, subst, true, arith, to_z, of_z, w64, rules, length}
use Rattle.std.specs.Prelude.{All, ℤ, pos, ◌*ℤ◌, IfNone, IfSome}
use Rattle.std.proofs.lemmas.Int.{ints}
use Rattle.bundle_rules.specs.Bundles.{sections_of}
use Rattle.market_units.specs.Members.{has}
use Rattle.bundle_rules.specs.Sets.{IsAscending}
use Rattle.bundle_rules.specs.Wishes.{utility}
use Rattle.bundle_rules.specs.Menus.{by_place}
use Rattle.bundle_rules.proofs.Feasibility.{places_of_rated, place_of_rated, utility_by_place}
use Rattle.bundle_bounds.specs.Offers.{places_of}
use Rattle.bundle_bounds.specs.Views.{data_of}
use Rattle.bundle_bounds.specs.Opens.{budget_left, credits_left, courses_left}
use Rattle.bundle_bounds.specs.Bounds.{bounds, IsFirstPruning, NonePrunes}
use Rattle.bundle_rules.specs.Ahead.{is_ahead}
use Rattle.bundle_bounds.specs.Ahead.{limit_of}
use Rattle.bundle_bounds.specs.Modest.{IsModest}
use Rattle.bundle_bounds.proofs.BelowLimit.{collected, few_of_room, rest_of_room, some_prunes, none_prunes}
use Rattle.bundle_bounds.proofs.FirstPruning.{first_pruning_is_the_first, found_pruning}
use Rattle.bundle_bounds.proofs.ByPlace.{ascending_places, has-places}
use Rattle.bundle_bounds.proofs.nodes.bound_closes_in.Goals as goal

pub invariant_of-picks : goal.invariant_of-picks
invariant_of-picks c = record {
  on_menu =
      rw (c.as_slice-places.ensures.value, c.of-places.ensures)
      (places_of_rated c.args.offer.now.menu.now (sections_of c.args.node.now.chosen) c.requires.node.takable.feasible.rated);
  few = c.as_slice-places.ensures.few;
}

pub invariant_of-chosen : goal.invariant_of-chosen
invariant_of-chosen c =
    let same = c.as_slice-places.ensures.value ∙ c.of-places.ensures in
    record {
      on_menu =
          rw same (places_of_rated c.args.offer.now.menu.now (sections_of c.args.node.now.chosen) c.requires.node.takable.feasible.rated);
      few = c.as_slice-places.ensures.few;
      rests_are = c.rests_of-rests.ensures;
    }

pub invariant_of-all : goal.invariant_of-all
invariant_of-all c =
    let room = c.collect-start.new.room in
    let whole : length c.collect-start.new.room ≡ 60 = search rules in
    record {
      modest = subst (All IsModest) (sym (rest_of_room room c.collect-start.result whole)) c.collect-start.ensures.modest;
      few = few_of_room room c.collect-start.result whole;
    }

pub returns : goal.returns
returns c =
    let menu = c.args.offer.now.menu.now in
    let offer = data_of c.args.offer.now in
    let k = c.args.node.now.place in
    let chosen = sections_of c.args.node.now.chosen in
    let champion = sections_of c.args.champion.now in
    let cs = places_of menu chosen in
    let ch = places_of menu champion in
    let slice = c.as_slice-places.result.now in
    let same : slice ≡ cs = c.as_slice-places.ensures.value ∙ c.of-places.ensures in
    let rises = c.len.ensures.menu.places.ascending in
    let up : IsAscending ch = ascending_places menu.places champion rises (place_of_rated menu champion c.requires.champion.rated) c.requires.champion.set in
    let up' : IsAscending cs =
    ascending_places menu.places chosen rises (place_of_rated menu chosen c.requires.node.takable.feasible.rated) c.requires.node.takable.feasible.set in
    let low : (p : ℕ) → has cs p ≡ true → p < k = λ p is. (let at = has-places menu.places chosen p is in rw (← at.2) (c.requires.node.decided at.0 at.1)) in
    let u : ℤ = c.utility.result in
    let told = c.of-base.ensures in
    let thousandfold : c.of-base.result.number ≡ pos 1000 *ℤ u = omega (arith, ints, told) in
    let base : c.of-base.result.number ≡ pos 1000 *ℤ utility (by_place menu) cs =
    thousandfold ∙ ap (λ z. pos 1000 *ℤ z) (sym (utility_by_place menu chosen ∙ sym c.utility.ensures)) in
    let kept : to_z w64 (of_z w64 c.limit_of-limit.result) ≡ c.limit_of-limit.result = omega (arith, ints) in
    let most : to_z w64 (of_z w64 c.limit_of-limit.result) ≡ limit_of (utility (by_place menu) ch) (is_ahead k ch cs) =
    kept ∙ c.limit_of-limit.ensures ∙ ap (λ z. limit_of z (is_ahead k ch slice)) (sym (utility_by_place menu champion))
    ∙ ap (λ l. limit_of (utility (by_place menu) ch) (is_ahead k ch l)) same in
    let are = c.rests_of-rests.ensures in
    let whole : length c.collect-start.new.room ≡ 60 = search rules in
    let ps =
    collected offer k cs slice c.collect-start.new.room c.collect-start.result c.min-from.result c.len.result same whole
    c.min-from.ensures c.len.ensures.value c.collect-start.ensures.value in
    let some : IfSome c.first_with.result (IsFirstPruning offer k cs ch (bounds offer k cs)) =
    some_prunes offer k cs ch up up' low _ _ _ _ _ _ base most (are.budget_is ∙ ap (budget_left offer) same) (are.credits_is ∙ ap (credits_left offer) same)
    (are.courses_is ∙ ap (courses_left offer) same) ps c.first_with.result c.first_with.ensures.first in
    let none : IfNone c.first_with.result (NonePrunes offer k cs ch (bounds offer k cs)) =
    none_prunes offer k cs ch up up' low _ _ _ _ _ _ base most (are.budget_is ∙ ap (budget_left offer) same) (are.credits_is ∙ ap (credits_left offer) same)
    (are.courses_is ∙ ap (courses_left offer) same) ps c.first_with.result c.first_with.ensures.none in
    record {
      first = some;
      value =
          found_pruning offer k chosen champion c.first_with.result
          (first_pruning_is_the_first offer k chosen champion c.len.ensures.menu c.requires.node c.requires.champion) some none;
      none = none;
    }
