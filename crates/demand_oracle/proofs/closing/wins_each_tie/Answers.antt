use Rattle.std.proofs.Common.{◌<◌, ◌≤◌, length, get_or, arith}
use Rattle.bundle_rules.proofs.Feasibility.{places_of_rated}
use Rattle.demand_oracle.specs.Questions.{offer_asked}
use Rattle.demand_oracle.specs.SummedNodes.{chosen_of}
use Rattle.demand_oracle.proofs.Ties.{wins_each_tie}
use Rattle.demand_oracle.proofs.closing.wins_each_tie.Goals as goal

pub stand_first-requires-clause-places : goal.stand_first-requires-clause-places
stand_first-requires-clause-places c i d low =
    let menu = c.args.question.now.offer.now.menu.now in
    let few : length menu.places ≤ 60 = c.len.ensures.menu.places.few in
    let all =
    rw (← c.places.ensures.value menu (offer_asked c.args.question.now).price c.requires.champion) at
    (places_of_rated menu (chosen_of c.args.champion.now) c.requires.champion.rated) in
    let on : get_or c.places.result.now i d < length menu.places = all i d low in omega arith

pub stand_first-requires-clause-own : goal.stand_first-requires-clause-own
stand_first-requires-clause-own c =
    let offer = offer_asked c.args.question.now in
    rw (c.places.ensures.value offer.menu offer.price c.requires.champion) c.requires.champion.word

pub returns : goal.returns
returns c from place question node later open_ champion yes_ =
    let offer = offer_asked c.args.question.now in
    let leads = rw (c.places.ensures.value offer.menu offer.price c.requires.champion) at (c.stand_first.ensures.0 yes_) in
    wins_each_tie offer question.menu c.args.question.now.names.now question.names from place later (chosen_of c.args.summed.now) node
    c.args.left open_ c.args.summed.now.word c.requires.summed.word (chosen_of c.args.champion.now) champion.takable leads
