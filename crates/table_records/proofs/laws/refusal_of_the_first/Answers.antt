use Rattle.table_records.proofs.LawFacts.{refusal_of_the_first_law}
use Rattle.table_records.proofs.laws.refusal_of_the_first.Goals as goal

pub returns : goal.returns
returns g c = refusal_of_the_first_law
