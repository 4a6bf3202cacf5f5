use Rattle.std.proofs.Common.{◌≤◌, ◌+◌, ◌-◌, ℕ, length, refl, ap, sym, ◌∙◌, arith, rules, w64}
use Rattle.std.specs.Prelude.{pos, ◌*ℤ◌, ◌<ℤ◌}
use Rattle.std.specs.Int.{trailing_zeros}
use Rattle.std.proofs.lemmas.Int.{ints}
use Rattle.bundle_rules.proofs.Feasibility.{utility_by_place}
use Rattle.bundle_bounds.proofs.Openings.{node_later}
use Rattle.demand_oracle.specs.Questions.{offer_asked, aim_of}
use Rattle.demand_oracle.specs.SummedNodes.{chosen_of, with_place_of}
use Rattle.demand_oracle.proofs.Columns.{column_with, hopes_with}
use Rattle.demand_oracle.proofs.OpenPlaces.{next_open, pruned_at_next}
use Rattle.demand_oracle.specs.Champions.{kept_of, nodes_of}
use Rattle.demand_oracle.proofs.Inserting.{led_prunes}
use Rattle.demand_oracle.proofs.Pruning.{less_prunes}
use Rattle.demand_oracle.proofs.below.falls_short.Goals as goal

pub added-added-requires : goal.added-added-requires
added-added-requires c =
    let opened =
    next_open (offer_asked c.args.question.now) c.requires.question.menu (c.args.place + 1)
    (with_place_of c.args.question.now.offer.now.menu.now c.args.summed.now c.args.place) c.args.apart (search rules) (omega arith) c.requires.word in
    let few : length c.args.question.now.offer.now.menu.now.places ≤ 60 = c.requires.question.menu.places.few in
    omega (arith, opened.on_menu)

pub invariant_of-step : goal.invariant_of-step
invariant_of-step c = record { summed_is = c.requires.summed; undecided = c.requires.undecided; on_menu = c.requires.on_menu }

pub hoped_with-hoped-requires : goal.hoped_with-hoped-requires
hoped_with-hoped-requires c =
    let opened =
    next_open (offer_asked c.args.question.now) c.requires.question.menu (c.args.place + 1)
    (with_place_of c.args.question.now.offer.now.menu.now c.args.summed.now c.args.place) c.args.apart (search rules) (omega arith) c.requires.word in
    omega (arith, opened.on_menu)

pub returns : goal.returns
returns c yes_ =
    let question = c.args.question.now in
    let offer = offer_asked question in
    let menu = question.offer.now.menu.now in
    let summed = c.args.summed.now in
    let place : ℕ = c.args.place in
    let chosen = with_place_of menu summed place in
    let champion = chosen_of c.args.leaders.now.champion in
    let next : ℕ = trailing_zeros w64 c.args.apart in
    let goods = c.requires.question.goods in
    let is_column =
    column_with offer c.requires.question.menu summed c.requires.summed place c.requires.undecided c.requires.on_menu
    question.reach.now c.column_with-column.result _ _ _ c.requires.node.takable refl
    (ap (λ n. (offer.budget - summed.paid) - n) (goods.prices place c.requires.on_menu))
    (ap (λ n. (offer.menu.credits - summed.credits) - n) (goods.credits place c.requires.on_menu)) c.column_with-column.ensures in
    let opened = next_open offer c.requires.question.menu (place + 1) chosen c.args.apart (search rules) (omega arith) c.requires.word in
    let on : next ≤ length menu.places = omega (arith, opened.on_menu) in
    let node = node_later offer (place + 1) next chosen opened.undecided c.requires.node in
    let test = c.is_below-2.ensures.0 yes_ in
    let below : c.added-added.result <ℤ (pos 1000000 *ℤ c.lacking-2.result) = omega (arith, ints, test) in
    pruned_at_next offer c.requires.question.menu (aim_of question) (place + 1) chosen c.requires.node c.args.apart (search rules) (omega arith)
    c.requires.word (kept_of c.args.leaders.now)
    (led_prunes offer (aim_of question) next chosen (nodes_of c.args.leaders.now.leading) c.args.leaders.now.champion c.args.leaders.now.most
    (c.is_full.ensures.0 c.if-not-is_full.false)
    (less_prunes offer (aim_of question) next chosen champion c.added-added.result c.hoped_with-hoped.result c.utility_with-utility.result
    c.utility-2.result c.lacking-2.result
    record {
      is_added =
          c.added-added.ensures.value offer chosen c.requires.question.menu on c.requires.question.reach
          is_column node;
      hopes_are =
          c.hoped_with-hoped.ensures
          ∙ hopes_with offer c.requires.question.menu summed c.requires.summed place c.requires.undecided c.requires.on_menu question.reach.now.hopes next
          c.requires.question.reach.hopes on node;
      u_is = c.utility_with-utility.ensures.value ∙ sym (utility_by_place menu chosen);
      worth_is = c.utility-2.ensures menu offer.price c.requires.leaders.champion.sums;
      lacks = omega (arith, ints, c.lacking-2.ensures.value);
      high = omega (arith, ints, c.lacking-2.ensures.high);
    } below))
