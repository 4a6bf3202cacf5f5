use Rattle.dropadd_desk.proofs.InRange.{replies_in_range}
use Rattle.dropadd_desk.proofs.laws.replies_in_range.Goals as goal

pub returns : goal.returns
returns c = replies_in_range
