use Rattle.std.proofs.Common.{length}
use Rattle.bundle_rules.proofs.Positions.{read_at, read_low}
use Rattle.demand_oracle.proofs.renaming.place_at.Goals as goal

pub returns-clause-place : goal.returns-clause-place
returns-clause-place c =
    read_at (length c.args.ranked.now.menu.now.places) c.args.ranked.now.order.now c.args.position c.from.result c.args.ranked.now.renamed.each_once c.requires
    c.from.ensures

pub returns-clause-on_menu : goal.returns-clause-on_menu
returns-clause-on_menu c =
    read_low (length c.args.ranked.now.menu.now.places) c.args.ranked.now.order.now c.args.position c.from.result c.args.ranked.now.renamed.each_once c.requires
    c.from.ensures
