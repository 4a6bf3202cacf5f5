use Rattle.bundle_rules.specs.Bundles.{sections_of}
use Rattle.bundle_rules.proofs.Naming.{all_on_order}
use Rattle.bundle_rules.proofs.ranked.Ranked.named.Goals as goal

pub named_from-requires-clause-on_menu : goal.named_from-requires-clause-on_menu
named_from-requires-clause-on_menu c =
    all_on_order c.args.self.now.order.now c.args.self.now.menu.now c.args.self.now.rows.now c.len.ensures.menu c.len-2.ensures.menu c.args.self.now.renamed
    (sections_of c.args.positions.now) c.sections.result.now c.requires c.sections.ensures.value
