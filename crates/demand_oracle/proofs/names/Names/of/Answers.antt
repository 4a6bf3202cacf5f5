use Rattle.std.proofs.Common.{refl}
use Rattle.demand_oracle.proofs.Filling.{names_hold}
use Rattle.demand_oracle.proofs.names.Names.of.Goals as goal

pub returns-clause-holds : goal.returns-clause-holds
returns-clause-holds c =
    names_hold c.args.ranked.now.order.now c.args.ranked.now.menu.now c.args.ranked.now.rows.now c.len.ensures.menu c.len-2.ensures.menu c.args.ranked.now.renamed _
    refl c.words_before.ensures
