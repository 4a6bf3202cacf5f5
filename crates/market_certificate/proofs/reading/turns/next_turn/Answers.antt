use Rattle.std.proofs.Common.{◌∷◌, [], ◌∙◌, append_assoc}
use Rattle.market_certificate.proofs.Steps.{lacks_turn, other_next}
use Rattle.market_certificate.proofs.reading.turns.next_turn.Goals as goal

pub returns-else-starts_turn-clause-none : goal.returns-else-starts_turn-clause-none
returns-else-starts_turn-clause-none c =
    other_next c.args.lines.rest.now c.in-Ok.line.now c.in-Ok.left.rest.now
    (c.in-Ok.ensures.takes.ahead ∙ append_assoc c.in-Ok.line.now (10 ∷ []) c.in-Ok.left.rest.now) c.in-Ok.ensures.whole
    (λ begun. let is = c.starts_turn.ensures.1 begun in cc (is, c.if-starts_turn.false))

pub returns-in-Err-clause-none : goal.returns-in-Err-clause-none
returns-in-Err-clause-none c = lacks_turn c.args.lines.rest.now c.in-Err.ensures.none
