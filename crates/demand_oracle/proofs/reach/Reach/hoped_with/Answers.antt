use Rattle.std.proofs.Common.{◌<◌, ◌≤◌, length, get_or, arith}
use Rattle.bundle_rules.proofs.Feasibility.{places_of_rated}
use Rattle.bundle_bounds.specs.Views.{data_of}
use Rattle.demand_oracle.specs.SummedNodes.{chosen_of}
use Rattle.demand_oracle.proofs.reach.Reach.hoped_with.Goals as goal

pub hopes_of-requires-clause-on_menu : goal.hopes_of-requires-clause-on_menu
hopes_of-requires-clause-on_menu c i d low =
    let step = c.args.step.now in
    let menu = step.offer.now.menu.now in
    let few : length menu.places ≤ 60 = c.len.ensures.menu.places.few in
    let all =
    rw (← c.places.ensures.value menu (data_of step.offer.now).price step.summed_is) at (places_of_rated menu (chosen_of step.summed.now) step.summed_is.rated) in
    let on : get_or c.places.result.now i d < length menu.places = all i d low in omega arith
