use Rattle.dropadd_hall.proofs.LineJoins.{entry_more}
use Rattle.dropadd_hall.proofs.text.put_entries.Goals as goal

pub steps-preserved : goal.steps-preserved
steps-preserved c =
    entry_more (record { catalog = c.args.catalog.now; roll = c.args.roll.now }) c.args.steps.now c.steps.step-index c.step-item.result c.args.text.now.items
    c.steps.text.items c.put_entry.new.text.items
    c.steps-test.true c.step-item.is c.steps.invariant c.in_ok-put_entry.ensures
