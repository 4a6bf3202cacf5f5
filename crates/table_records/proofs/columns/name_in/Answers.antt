use Rattle.std.proofs.Common.{sym}
use Rattle.table_records.proofs.ColumnFacts.{is_name_of}
use Rattle.table_records.proofs.columns.name_in.Goals as goal

pub returns : goal.returns
returns c = rw (sym c.field_in.ensures) (is_name_of c.read_name.result c.field_in.result.now c.read_name.ensures.name c.read_name.ensures.none)
