use Rattle.table_records.proofs.LawFacts.{rows_where_all_are_good_law}
use Rattle.table_records.proofs.laws.rows_where_all_are_good.Goals as goal

pub returns : goal.returns
returns g c = rows_where_all_are_good_law
