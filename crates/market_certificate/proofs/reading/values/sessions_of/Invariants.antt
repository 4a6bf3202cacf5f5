use Rattle.std.proofs.Common.{◌≡◌, map}
use Rattle.std.specs.Prelude.{All}
use Rattle.std.specs.Fmt.{decimal}
use Rattle.market_certificate.specs.Publications.{IsSession}
use Rattle.market_certificate.proofs.reading.values.sessions_of.Given as goal

abbrev pub invariant-words : goal.invariant-words
invariant-words l =
    (goal.iterator-words).can_next l.word-iterator ×
    (goal.iterator-words).is_finite l.word-iterator ×
    (map (λ x. x.now) l.yielded ≡ map decimal l.order.items) ×
    All IsSession l.order.items
