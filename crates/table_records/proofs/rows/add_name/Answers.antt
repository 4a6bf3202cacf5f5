use Rattle.table_records.proofs.NameFacts.{adds_new, adds_none}
use Rattle.table_records.proofs.rows.add_name.Goals as goal

pub returns-in-Ok-default-true : goal.returns-in-Ok-default-true
returns-in-Ok-default-true c =
    adds_new _ _ c.args.name (rw c.in-Ok-default-true.field-0-1-test at c.in-Ok-default-true.ensures.added) c.in-Ok-default-true.ensures.keys
    c.in-Ok-default-true.ensures.unique

pub returns-in-Ok-default-false : goal.returns-in-Ok-default-false
returns-in-Ok-default-false c =
    adds_none _ _ c.args.name c.in-Ok-default-false.earlier (rw c.in-Ok-default-false.field-0-1-test at c.in-Ok-default-false.ensures.added)
    c.in-Ok-default-false.ensures.index c.in-Ok-default-false.ensures.unique
