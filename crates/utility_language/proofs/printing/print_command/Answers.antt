use Rattle.std.proofs.Common.{arith, ◌∙◌}
use Rattle.utility_language.proofs.Rooms.{drop_further}
use Rattle.utility_language.proofs.printing.print_command.Goals as goal

pub returns-in-Rate-clause-rest : goal.returns-in-Rate-clause-rest
returns-in-Rate-clause-rest c =
    c.put_short.ensures.rest
    ∙ drop_further c.put_word-end-in-Rate.result c.put_short.result _ _ c.put_word-end-in-Rate.ensures.rest (omega arith)
    ∙ drop_further c.put_word-end.result c.put_short.result _ _ c.put_word-end.ensures.rest (omega arith)
    ∙ drop_further c.put-end.result c.put_short.result _ _ c.put-end.ensures.rest (omega arith)

pub returns-in-Pair-clause-rest : goal.returns-in-Pair-clause-rest
returns-in-Pair-clause-rest c =
    c.put_short-in-Pair.ensures.rest
    ∙ drop_further c.put_word-end-in-Pair-3.result c.put_short-in-Pair.result _ _ c.put_word-end-in-Pair-3.ensures.rest (omega arith)
    ∙ drop_further c.put_word-end-in-Pair-2.result c.put_short-in-Pair.result _ _ c.put_word-end-in-Pair-2.ensures.rest (omega arith)
    ∙ drop_further c.put_word-end-in-Pair.result c.put_short-in-Pair.result _ _ c.put_word-end-in-Pair.ensures.rest (omega arith)
    ∙ drop_further c.put-end-in-Pair.result c.put_short-in-Pair.result _ _ c.put-end-in-Pair.ensures.rest (omega arith)

pub returns-in-Clear-clause-rest : goal.returns-in-Clear-clause-rest
returns-in-Clear-clause-rest c =
    c.put_word.ensures.rest ∙ drop_further c.put-end-in-Clear.result c.put_word.result _ _ c.put-end-in-Clear.ensures.rest (omega arith)
