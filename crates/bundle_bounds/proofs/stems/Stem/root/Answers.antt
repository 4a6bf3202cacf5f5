use Rattle.std.proofs.Common.{◌≡◌, ◌≤◌, ◌*◌, ◌+◌, refl, sym, ap, ◌∙◌, arith, to_z, of_z, w32, w64, rules, length}
use Rattle.std.specs.Prelude.{pos, ◌*ℤ◌}
use Rattle.std.proofs.lemmas.Int.{ints}
use Rattle.std.proofs.lemmas.Bool.{false≢true}
use Rattle.bundle_rules.specs.Bundles.{sections_of}
use Rattle.bundle_bounds.specs.Ahead.{limit_of}
use Rattle.bundle_bounds.specs.Courses.{by_course}
use Rattle.bundle_bounds.specs.Offers.{places_of}
use Rattle.bundle_bounds.proofs.BelowLimit.{rest_of_room}
use Rattle.bundle_bounds.proofs.StemSteps.{not_ahead, no_tangents}
use Rattle.bundle_bounds.proofs.stems.Stem.root.Goals as goal

pub returns : goal.returns
returns c =
    let back : to_z w32 (of_z w32 c.utility-most.result) ≡ c.utility-most.result = omega (arith, ints) in
    let from_most = c.from.ensures in
    let least : to_z w64 (of_z w64 (pos 1000 *ℤ to_z w64 (of_z w64 c.from.result))) ≡ pos 1000 *ℤ to_z w32 (of_z w32 c.utility-most.result) =
    omega (arith, ints, from_most) in
    let are = c.rests_of-rests.ensures in
    let whole : length c.collect-start.new.room ≡ 60 = search rules in
    let room = rest_of_room c.collect-start.new.room c.collect-start.result whole in
    let high : c.plain_sum-plain.result ≤ 20000000 * 0 + 20000000 * 60 = c.plain_sum-plain.ensures.high in
    record {
      has_chosen = record {
        champion_is = c.of.ensures;
        most_is = back ∙ c.utility-most.ensures;
        whole = refl;
        few = omega arith;
        chosen_is = refl;
        utility_is = refl;
        low = omega (arith, ints);
        high = omega (arith, ints);
        budget_is = are.budget_is;
        credits_is = are.credits_is;
        courses_is = are.courses_is;
      };
      limit_is =
          least ∙ ap (limit_of (to_z w32 (of_z w32 c.utility-most.result))) (sym (not_ahead (places_of c.args.offer.now.menu.now (sections_of c.args.champion.now))));
      keeps = record {
        whole = whole;
        within = c.collect-start.ensures.within;
        kept_is = c.collect-start.ensures.value;
        modest = c.collect-start.ensures.modest;
        on_menu = c.collect-start.ensures.on_menu;
        plain_is =
            c.plain_sum-plain.ensures.value
            ∙ ap (by_course (λ p. 1000 * p.worth)) room;
        small = omega arith;
        tangents_are = no_tangents _ _ _ _ c.none.result c.none.ensures.money c.none.ensures.credits c.none.ensures.courses;
      };
      quiet = λ yes. absurd (false≢true yes);
    }
