use Rattle.table_records.proofs.LawFacts.{number_spelled_law}
use Rattle.table_records.proofs.laws.number_spelled.Goals as goal

pub returns : goal.returns
returns c = number_spelled_law
