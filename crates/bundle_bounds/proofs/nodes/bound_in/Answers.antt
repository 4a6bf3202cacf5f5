use Rattle.std.proofs.Common.{◌≡◌, ◌-◌, ◌∙◌, ap, sym, subst, take, drop, arith, to_z, of_z, w64, rules, length}
use Rattle.std.specs.Prelude.{All, ℤ, pos, ◌*ℤ◌}
use Rattle.std.proofs.lemmas.Int.{ints}
use Rattle.bundle_rules.specs.Bundles.{sections_of}
use Rattle.bundle_rules.specs.Wishes.{utility}
use Rattle.bundle_rules.specs.Menus.{by_place}
use Rattle.bundle_rules.proofs.Feasibility.{places_of_rated, utility_by_place}
use Rattle.bundle_bounds.specs.Offers.{places_of}
use Rattle.bundle_bounds.specs.Views.{data_of}
use Rattle.bundle_bounds.specs.Opens.{budget_left, credits_left, courses_left}
use Rattle.bundle_bounds.specs.Bounds.{all_bounds, bounds, HasBound}
use Rattle.bundle_bounds.specs.Modest.{IsModest}
use Rattle.bundle_bounds.proofs.BelowLimit.{collected, few_of_room, rest_of_room, same_numbers}
use Rattle.bundle_bounds.proofs.nodes.bound_in.Goals as goal

pub invariant_of-picks : goal.invariant_of-picks
invariant_of-picks c = record {
  on_menu =
      rw (c.as_slice-places.ensures.value, c.of-places.ensures)
      (places_of_rated c.args.offer.now.menu.now (sections_of c.args.node.now.chosen) c.requires.node.takable.feasible.rated);
  few = c.as_slice-places.ensures.few;
}

pub invariant_of-chosen : goal.invariant_of-chosen
invariant_of-chosen c =
    let same = c.as_slice-places.ensures.value ∙ c.of-places.ensures in
    record {
      on_menu =
          rw same (places_of_rated c.args.offer.now.menu.now (sections_of c.args.node.now.chosen) c.requires.node.takable.feasible.rated);
      few = c.as_slice-places.ensures.few;
      rests_are = c.rests_of-rests.ensures;
    }

pub invariant_of-all : goal.invariant_of-all
invariant_of-all c =
    let room = c.collect-start.new.room in
    let whole : length c.collect-start.new.room ≡ 60 = search rules in
    record {
      modest = subst (All IsModest) (sym (rest_of_room room c.collect-start.result whole)) c.collect-start.ensures.modest;
      few = few_of_room room c.collect-start.result whole;
    }

pub returns : goal.returns
returns c =
    let menu = c.args.offer.now.menu.now in
    let offer = data_of c.args.offer.now in
    let k = c.args.node.now.place in
    let cs = places_of menu (sections_of c.args.node.now.chosen) in
    let same : c.as_slice-places.result.now ≡ cs = c.as_slice-places.ensures.value ∙ c.of-places.ensures in
    let u : ℤ = c.utility.result in
    let told = c.of-base.ensures in
    let thousandfold : c.of-base.result.number ≡ pos 1000 *ℤ u = omega (arith, ints, told) in
    let base : c.of-base.result.number ≡ pos 1000 *ℤ utility (by_place menu) cs =
    thousandfold ∙ ap (λ z. pos 1000 *ℤ z) (sym (utility_by_place menu (sections_of c.args.node.now.chosen) ∙ sym c.utility.ensures)) in
    let rests = c.rests_of-rests in
    let are = rests.ensures in
    let whole : length c.collect-start.new.room ≡ 60 = search rules in
    let ps =
    collected offer k cs c.as_slice-places.result.now c.collect-start.new.room c.collect-start.result c.min-from.result c.len.result same
    whole c.min-from.ensures c.len.ensures.value c.collect-start.ensures.value in
    let numbers : all_bounds c.of-base.result.number rests.result.budget rests.result.credits
    rests.result.courses (take (60 - c.collect-start.result) (drop c.collect-start.result c.collect-start.new.room))
    ≡ bounds offer k cs =
    same_numbers offer k cs _ _ _ _ _ base (are.budget_is ∙ ap (budget_left offer) same) (are.credits_is ∙ ap (credits_left offer) same)
    (are.courses_is ∙ ap (courses_left offer) same) ps in
    let given : HasBound (bounds offer k cs) c.args.leaf c.requires.leaf.0 = c.requires.leaf.1 in
    let found = c.bound_of.ensures c.requires.leaf.0 (subst (λ bs. HasBound bs c.args.leaf c.requires.leaf.0) (sym numbers) given) in
    let r : to_z w64 (of_z w64 c.bound_of.result) ≡ c.bound_of.result = omega (arith, ints) in
    rw r (subst (λ bs. HasBound bs c.args.leaf c.bound_of.result) numbers found)
