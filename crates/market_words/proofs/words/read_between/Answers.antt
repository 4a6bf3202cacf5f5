use Rattle.std.proofs.Common.{◌≡◌, arith, sym, ◌∙◌}
use Rattle.std.proofs.lemmas.Fmt.{decimal_injective}
use Rattle.market_words.proofs.words.read_between.Goals as goal

pub returns-then-number-least-clause-none : goal.returns-then-number-least-clause-none
returns-then-number-least-clause-none c = λ n some few spelled.
    let same : c.in_ok-number.number ≡ n =
    decimal_injective c.in_ok-number.number n (omega (arith, c.in_ok-number.ensures.within, c.ranges.most.fits)) (omega (arith, c.ranges.most.fits))
    (sym c.in_ok-number.ensures.spelled ∙ spelled) in
    omega (arith, c.if-number-least.true)
