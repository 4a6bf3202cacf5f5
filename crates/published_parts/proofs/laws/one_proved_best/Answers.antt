use Rattle.published_parts.proofs.OneBests.{one_best, one_proof}
use Rattle.published_parts.proofs.laws.one_proved_best.Goals as goal

pub returns : goal.returns
returns c = λ offer one other tree alike is so. (one_best offer one other tree alike is so, one_proof offer one other tree alike is so)
