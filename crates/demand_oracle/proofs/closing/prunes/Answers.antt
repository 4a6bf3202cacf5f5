use Rattle.std.proofs.Common.{◌≡◌, ◌<◌, ◌≤◌, ℕ, ◌∙◌, length, arith, true, get_or, sym, ap}
use Rattle.std.specs.Prelude.{pos, ◌+ℤ◌, ◌*ℤ◌, ◌<ℤ◌}
use Rattle.std.proofs.lemmas.Int.{ints}
use Rattle.market_units.specs.Totals.{total}
use Rattle.market_units.specs.Members.{has}
use Rattle.bundle_rules.proofs.Feasibility.{places_of_rated, utility_by_place}
use Rattle.bundle_bounds.specs.Laws.{IsNode}
use Rattle.bundle_bounds.specs.Offers.{places_of}
use Rattle.bundle_bounds.proofs.ByPlace.{has-places}
use Rattle.bundle_bounds.proofs.Openings.{node_later}
use Rattle.demand_oracle.specs.Questions.{IsQuestion, offer_asked, aim_of}
use Rattle.demand_oracle.specs.SummedNodes.{chosen_of}
use Rattle.demand_oracle.specs.Columns.{IsColumn}
use Rattle.demand_oracle.specs.Reaches.{number_at}
use Rattle.demand_oracle.proofs.Columns.{column_at}
use Rattle.demand_oracle.proofs.Pruning.{IsWeighed, hopes_read, less_prunes, no_more_prunes}
use Rattle.demand_oracle.proofs.closing.prunes.Goals as goal
use Rattle.demand_oracle.proofs.closing.prunes.Goals.{After-lacking-lacking}

pub bounds-reach-from : goal.bounds-reach-from
bounds-reach-from c = let few : length c.args.question.now.offer.now.menu.now.places ≤ 60 = c.len.ensures.menu.places.few in omega arith

pub hopes_of-hoped-requires-clause-on_menu : goal.hopes_of-hoped-requires-clause-on_menu
hopes_of-hoped-requires-clause-on_menu c i d low =
    let menu = c.args.question.now.offer.now.menu.now in
    let few : length menu.places ≤ 60 = c.len.ensures.menu.places.few in
    let all =
    rw (← c.places.ensures.value menu (offer_asked c.args.question.now).price c.requires.summed) at
    (places_of_rated menu (chosen_of c.args.summed.now) c.requires.summed.rated) in
    let on : get_or c.places.result.now i d < length menu.places = all i d low in omega arith

-- what is compared
weighed : (c : After-lacking-lacking) → IsQuestion c.args.question.now
    → IsColumn (offer_asked c.args.question.now).menu (offer_asked c.args.question.now).budget c.args.question.now.reach.now c.args.summed.now c.args.column.now
    → IsNode (offer_asked c.args.question.now) c.args.place (chosen_of c.args.summed.now)
    → IsWeighed (offer_asked c.args.question.now) c.args.place (chosen_of c.args.summed.now)
    (chosen_of c.args.champion.now) c.added-added.result c.hopes_of-hoped.result c.utility-4.result c.utility-3.result c.lacking-lacking.result
weighed c question column node =
    let offer = offer_asked c.args.question.now in
    let menu = c.args.question.now.offer.now.menu.now in
    let reach = c.args.question.now.reach.now in
    let chosen = chosen_of c.args.summed.now in
    let cs = places_of menu chosen in
    let k : ℕ = c.args.place in
    let low : (p : ℕ) → has cs p ≡ true → p < k = λ p in_it. (let at = has-places menu.places chosen p in_it in rw (← at.2) (node.decided at.0 at.1)) in
    let places : c.places.result.now ≡ cs = c.places.ensures.value menu offer.price c.requires.summed in
    record {
      is_added =
          c.added-added.ensures.value offer chosen c.len.ensures.menu c.requires.place question.reach
          (column_at offer c.len.ensures.menu c.args.summed.now c.requires.summed reach c.args.column.now node.takable column) node;
      hopes_are =
          c.hopes_of-hoped.ensures.value ∙ ap (total (number_at reach.hopes c.from.result)) places
          ∙ hopes_read offer reach.hopes k c.from.result cs question.reach.hopes c.from.ensures c.requires.place low;
      u_is = c.utility-4.ensures menu offer.price c.requires.summed ∙ sym (utility_by_place menu chosen);
      worth_is = c.utility-3.ensures menu offer.price c.requires.champion;
      lacks = omega (arith, ints, c.lacking-lacking.ensures.value);
      high = omega (arith, ints, c.lacking-lacking.ensures.high);
    }

pub returns-then-is_below : goal.returns-then-is_below
returns-then-is_below c from question column node later open_ champion yes_ =
    let test = c.is_below-2.ensures.0 c.if-is_below.true in
    let below : c.added-added.result <ℤ (pos 1000000 *ℤ c.lacking-lacking.result) = omega (arith, ints, test) in
    less_prunes _ (aim_of c.args.question.now) _ _ _ _ _ _ _ _
    (weighed (goal.at.returns-then-is_below c).After-lacking-lacking question column
    (node_later (offer_asked c.args.question.now) from c.args.place (chosen_of c.args.summed.now) later node)) below

pub returns-then-is_below-2 : goal.returns-then-is_below-2
returns-then-is_below-2 c from question column node later open_ champion wins =
    let test = c.is_below-3.ensures.0 c.if-is_below-2.true in
    let below : c.added-added.result <ℤ (pos 1000000 *ℤ (c.lacking-lacking.result +ℤ pos 1)) = omega (arith, ints, test) in
    no_more_prunes _ (aim_of c.args.question.now) _ _ _ _ _ _ _ _
    (weighed (goal.at.returns-then-is_below-2 c).After-lacking-lacking question column
    (node_later (offer_asked c.args.question.now) from c.args.place (chosen_of c.args.summed.now) later node)) below
    (c.wins_each_tie.ensures from c.args.place question node later open_ champion wins)
