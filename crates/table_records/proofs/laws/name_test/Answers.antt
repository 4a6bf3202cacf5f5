use Rattle.table_records.proofs.LawFacts.{name_test_law}
use Rattle.table_records.proofs.laws.name_test.Goals as goal

pub returns : goal.returns
returns c = name_test_law
