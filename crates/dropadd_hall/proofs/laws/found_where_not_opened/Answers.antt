use Rattle.dropadd_hall.proofs.Exactly.{found_or_opens}
use Rattle.dropadd_hall.proofs.laws.found_where_not_opened.Goals as goal

pub returns : goal.returns
returns c = found_or_opens
