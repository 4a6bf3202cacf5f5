use Rattle.dropadd_hall.proofs.Exactly.{opens_or_found}
use Rattle.dropadd_hall.proofs.laws.opens_or_is_found.Goals as goal

pub returns : goal.returns
returns c = opens_or_found
