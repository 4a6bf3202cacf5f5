use Rattle.std.proofs.Common.{◌≡◌, ◌≤◌, length, arith}
use Rattle.std.specs.Arc.{arc_value}
use Rattle.demand_api.proofs.Parts.{menus_few}
use Rattle.demand_workers.proofs.unsettled.settle_row.Goals as goal

pub overflow_cast-number : goal.overflow_cast-number
overflow_cast-number c =
    let few : length (arc_value c.args.remembered.now.crowd).menus.items ≤ 2000 = menus_few (arc_value c.args.remembered.now.crowd) in
    let each : length c.args.remembered.now.bundles.items ≡ length (arc_value c.args.remembered.now.crowd).menus.items = c.args.remembered.now.each in
    omega (arith, c.requires.student)
