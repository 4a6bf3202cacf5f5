use Rattle.dropadd_hall.proofs.Exactly.{none_where_opened}
use Rattle.dropadd_hall.proofs.laws.no_finding_where_opened.Goals as goal

pub returns : goal.returns
returns c = none_where_opened
