use Rattle.std.proofs.Common.{◌≡◌, ◌≤◌, ◌<◌, ◌∙◌, length, arith}
use Rattle.std.proofs.lemmas.Bool.Decides.{nat_tests}
use Rattle.market_units.specs.Totals.{total}
use Rattle.bundle_rules.specs.Menus.{by_place}
use Rattle.bundle_rules.proofs.preferences.within_caps.Goals as goal

pub returns-then-picks-from : goal.returns-then-picks-from
unfolding by_place
returns-then-picks-from c =
    let courses : length c.args.picks.now.places.now ≤ c.args.picks.now.menu.now.courses =
    omega (arith, c.if-picks-from.true, c.from.ensures, c.courses.ensures) in
    let value : c.credits_of.result ≡ total (by_place c.args.picks.now.menu.now).credits c.args.picks.now.places.now = c.credits_of.ensures.value in
    let cap : c.from-then-picks-from.result ≡ c.args.picks.now.menu.now.credits = c.from-then-picks-from.ensures ∙ c.credits.ensures in (
      (λ yes'. record {
        courses = courses;
        credits =
            (let low : c.credits_of.result
            ≤ c.from-then-picks-from.result = grind (arith, nat_tests) in let h : total (by_place c.args.picks.now.menu.now).credits c.args.picks.now.places.now
            ≤ c.args.picks.now.menu.now.credits = omega arith in h);
      }),
      (λ is. let h : total (by_place c.args.picks.now.menu.now).credits c.args.picks.now.places.now ≤ c.args.picks.now.menu.now.credits =
          is.credits in let low : c.credits_of.result
          ≤ c.from-then-picks-from.result = omega arith in grind (arith, nat_tests)),
    )

pub returns-else-picks-from : goal.returns-else-picks-from
unfolding by_place
returns-else-picks-from c =
    let many : c.from.result < length c.args.picks.now.places.now = c.if-picks-from.false in
    let cap : c.from.result ≡ c.args.picks.now.menu.now.courses = c.from.ensures ∙ c.courses.ensures in (
      (λ yes'. let low : length c.args.picks.now.places.now ≤ c.from.result = grind (arith, nat_tests) in absurd (omega arith)),
      (λ is. let low : length c.args.picks.now.places.now ≤ c.args.picks.now.menu.now.courses = is.courses in absurd (omega arith)),
    )
