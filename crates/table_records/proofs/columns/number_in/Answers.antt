use Rattle.std.proofs.Common.{arith, sym}
use Rattle.table_records.proofs.ColumnFacts.{is_number_of}
use Rattle.table_records.proofs.columns.number_in.Goals as goal

pub returns : goal.returns
returns c =
    rw (sym c.field_in.ensures)
    (is_number_of c.read_number.result c.args.max c.field_in.result.now (omega arith) c.read_number.ensures.within c.read_number.ensures.spelled
    c.read_number.ensures.none)
