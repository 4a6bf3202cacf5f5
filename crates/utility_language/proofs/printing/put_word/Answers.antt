use Rattle.std.proofs.Common.{arith, ◌∙◌}
use Rattle.utility_language.proofs.Rooms.{drop_further}
use Rattle.utility_language.proofs.printing.put_word.Goals as goal

pub returns-clause-rest : goal.returns-clause-rest
returns-clause-rest c =
    c.put.ensures.rest ∙ drop_further c.put-place.result c.put.result _ _ c.put-place.ensures.rest (omega arith)
